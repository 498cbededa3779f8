-- Laws of a break.
pub mod Reported
pub mod Broken
