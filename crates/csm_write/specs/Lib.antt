pub mod Canon
pub mod Writable
pub mod Writing
pub mod Shortness
