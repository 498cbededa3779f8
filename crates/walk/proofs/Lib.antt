pub mod Ranges
pub mod Tables
pub mod Ways
