pub mod Answers
pub mod OnTheWay
pub mod Pieces
