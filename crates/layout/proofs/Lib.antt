-- Laws of heads and rows, for the proofs of this crate and of crates that use it.
pub mod HeadAndRows
pub mod HeldRows
pub mod Layouts
pub mod Marks
