pub mod OrdersKept
pub mod OrdersApart
mod KkSent
mod CentresAsked
pub mod Ordered
pub mod Beginning
mod Starts
mod StartsKk
mod Asks
mod Ends
mod GivesUp
pub mod OrdersRanged
