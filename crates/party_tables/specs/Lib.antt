pub mod Tables
pub mod Keyed
pub mod Statuses
pub mod Keys
pub mod Names
pub mod Ranges
pub mod Same
