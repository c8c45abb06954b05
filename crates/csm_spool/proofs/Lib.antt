pub mod Steps
mod Images
mod Carried
mod Runs
mod Onwards
mod Whole
pub mod PlanEdits
mod LastPlans
mod Entries
mod Numbers
mod Begun
mod Codes
mod Settled
