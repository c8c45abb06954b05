pub mod Digits
pub mod Expanding
pub mod Naming
pub mod Spelling
pub mod Splitting
mod Filling
mod Pieces
