pub mod Runs
pub mod Losses
pub mod Turns
pub mod Calls
pub mod Sessions
pub mod Batches
pub mod Deeds
pub mod SettingUp
