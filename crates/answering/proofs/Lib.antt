pub mod AnsweringRows
