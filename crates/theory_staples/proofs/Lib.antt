pub mod FileOrder
pub mod JobRow
pub mod Sites
pub mod ByNumbers
pub mod Most
