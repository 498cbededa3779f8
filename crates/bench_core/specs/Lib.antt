pub mod InCode
