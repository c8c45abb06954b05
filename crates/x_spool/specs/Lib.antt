pub mod Dues
pub mod Outcomes
pub mod Shelves
pub mod Steps
pub mod Outboxes
pub mod Looks
pub mod Inbox
pub mod Onward
