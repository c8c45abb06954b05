pub mod Outcomes
pub mod Payments
pub mod Dues
pub mod Calls
pub mod Steps
