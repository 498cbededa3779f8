pub mod Places
pub mod Table
