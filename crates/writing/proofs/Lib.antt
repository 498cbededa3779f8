-- Laws of the writers, for the proofs of this crate and of crates that use it.
pub mod Written
pub mod Listing
