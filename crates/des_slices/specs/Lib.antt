pub mod Vectors
pub mod Slices
pub mod Keys
pub mod Exchanges
