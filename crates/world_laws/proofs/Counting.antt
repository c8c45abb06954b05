-- The laws that need no honesty.
pub mod Sound
pub mod Quiet
pub mod Accepting
pub mod Counts
pub mod Spaces
pub mod Roles
pub mod Runs
pub mod Taken
