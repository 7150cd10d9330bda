pub mod Blocks
pub mod Laws
pub mod Onward
pub mod Blocked
