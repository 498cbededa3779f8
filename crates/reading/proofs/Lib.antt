-- Laws of the reader, for the proofs of this crate and of crates that use it.
mod Cases
pub mod Readings
