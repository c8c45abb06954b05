pub mod Calls
pub mod Sessions
pub mod SetUp
pub mod Rules
pub mod SettingUp
pub mod Failing
pub mod Deeds
pub mod Turns
