pub mod Reports
pub mod Lines
pub mod Laid
