pub mod Images
pub mod Outcomes
pub mod Steps
pub mod Dues
pub mod Asking
pub mod Notices
