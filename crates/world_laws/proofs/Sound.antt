-- The rows of the standard are sound: counts go on, and exchanges wait for what isn't ready.
pub mod Exchanges
pub mod NewKks
pub mod Keys
pub mod Answers
pub mod TwinKeys
pub mod Commands
pub mod Arrivals
pub mod Centres
pub mod TakesRows
