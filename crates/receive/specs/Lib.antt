pub mod Checks
pub mod Sent
