pub mod Slots
pub mod Keeping
pub mod Sent
