pub mod Decimals
pub mod Naming
