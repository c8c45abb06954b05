pub mod Offset
pub mod Wrapped
