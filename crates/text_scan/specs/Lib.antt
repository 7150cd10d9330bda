pub mod Line
pub mod Field
pub mod Lead
pub mod Found
