pub mod Bench
pub mod Commands
pub mod Interpreter
pub mod Text
pub mod Run
