pub mod Facts
pub mod InCode
