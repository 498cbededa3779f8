pub mod Sound
pub mod InParts
