pub mod Carrying
pub mod Holding
pub mod HoldingAgain
pub mod Images
pub mod Losing
pub mod Members
mod Naming
pub mod Owning
pub mod Places
pub mod Planning
pub mod PuttingBack
mod PuttingIn
pub mod Results
pub mod Stopping
pub mod Surrounding
