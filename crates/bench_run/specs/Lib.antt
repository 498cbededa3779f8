pub mod Blocks
pub mod Turns
