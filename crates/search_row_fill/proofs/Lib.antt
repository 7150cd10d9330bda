pub mod Cell
pub mod Filled
pub mod Ready
