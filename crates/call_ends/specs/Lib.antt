pub mod Lines
pub mod Causes
pub mod Transfer
pub mod Listening
pub mod Check
pub mod Puts
pub mod Digits
pub mod Commands
