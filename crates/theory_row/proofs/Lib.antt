pub mod Order
pub mod Window
pub mod Arranged
pub mod Rules
pub mod Row
pub mod History
pub mod Tries
pub mod Single
