pub mod Adding
pub mod Tags
pub mod Hexadecimal
pub mod Named
pub mod Standing
pub mod Codes
pub mod Lengths
pub mod Closings
