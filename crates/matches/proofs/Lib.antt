mod LostBy
mod Listed
mod LostRows
