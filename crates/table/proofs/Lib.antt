-- Laws of tables, for the proofs of this crate and of crates that use it.
pub mod ByHead
pub mod Cases
pub mod Changes
pub mod Heads
pub mod Lookup
pub mod WellFormed
mod MarkedRows
pub mod Places
