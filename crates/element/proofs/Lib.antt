-- Laws of elements, for the proofs of this crate and of crates that use it.
pub mod Lengths
pub mod Passing
pub mod Scans
pub mod ListParts
pub mod Sizes
pub mod ReadBack
mod Marking
