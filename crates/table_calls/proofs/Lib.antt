-- Laws of fresh, next hop and forget.
pub mod Cases
