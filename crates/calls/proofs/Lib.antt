-- Laws of the shared parts of the calls.
pub mod Checks
pub mod Neighbours
