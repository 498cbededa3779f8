pub mod Address
pub mod Elements
pub mod Layout
pub mod Marks
pub mod Row
