pub mod Code
pub mod Cost
pub mod Following
pub mod Framed
pub mod Reading
pub mod Whole
