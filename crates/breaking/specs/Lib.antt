pub mod Links
pub mod Reports
