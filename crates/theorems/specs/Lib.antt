pub mod Edges
pub mod Mesh
pub mod Premise
pub mod WrongRules
pub mod Runs
pub mod WorkedBench
pub mod Statements
