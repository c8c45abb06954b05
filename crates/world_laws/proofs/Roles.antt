pub mod Inputs
pub mod Hearing
