pub mod Numbering
pub mod Numbers
