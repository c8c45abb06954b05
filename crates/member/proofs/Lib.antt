pub mod ByRole
pub mod Settling
pub mod Taking
pub mod ByClass
pub mod BankApart
pub mod BankLeads
pub mod BankTaking
pub mod BankRanged
mod Plans
mod Refusals
