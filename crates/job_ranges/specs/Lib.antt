pub mod Listed
pub mod Values
pub mod Made
