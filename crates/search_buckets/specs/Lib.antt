pub mod Loops
pub mod Gaps
pub mod Rows
pub mod Laws
pub mod Sources
pub mod Next
pub mod Ends
