pub mod Around
pub mod Closing
pub mod Crash
pub mod Expecting
pub mod Failing
pub mod OpenParties
pub mod Stops
