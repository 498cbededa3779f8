mod Going
pub mod KeptOnes
mod Requests
