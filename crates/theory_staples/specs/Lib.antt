pub mod FileOrder
pub mod JobRow
pub mod ByNumbers
pub mod Most
