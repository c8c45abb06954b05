pub mod Pair
pub mod Code
pub mod Running
