pub mod Rules
pub mod Judged
pub mod Flat
pub mod Board
pub mod Held
