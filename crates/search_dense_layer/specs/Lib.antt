pub mod Thin
pub mod Laws
pub mod Found
pub mod Kept
pub mod KeptLaws
