-- Laws of comparing numbers and of ranks, for the proofs of this crate and of crates that use it.
pub mod Laws
pub mod Rank
