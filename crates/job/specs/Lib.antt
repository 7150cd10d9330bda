pub mod Value
pub mod Parts
pub mod Cells
pub mod Layouts
pub mod Accepted
pub mod Ready
