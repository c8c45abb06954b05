-- The uses of a row are those that its text shows.
pub mod Rows
pub mod Roles
pub mod Runs
