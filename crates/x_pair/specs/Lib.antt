pub mod Outcomes
pub mod Dues
pub mod Creations
pub mod Comparisons
pub mod Looking
pub mod Notices
pub mod Steps
