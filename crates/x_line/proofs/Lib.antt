pub mod Checking
pub mod Declaring
pub mod Limiting
pub mod Ordering
pub mod Parsing
pub mod Taking
pub mod Mirrored
