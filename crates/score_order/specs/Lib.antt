pub mod Words
pub mod Below
pub mod Sorting
pub mod Cells
pub mod Arrays
