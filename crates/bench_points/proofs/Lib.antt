pub mod Invariant
pub mod Lending
mod Adding
mod Walking
