pub mod Element
pub mod Layout
pub mod Entries
pub mod Flags
pub mod Octets
pub mod Lists
