mod Entries
pub mod Rows
pub mod Tables
pub mod Distinct
pub mod Each
pub mod Lengths
pub mod Keys
mod Alike
