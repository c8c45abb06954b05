pub mod Joining
pub mod Numbers
mod Closings
mod Lengths
pub mod Names
mod Tags
pub mod RowForms
mod ExchangeForms
mod EditForms
pub mod Changes
mod Undoing
mod Steps
mod FirstBodies
mod OneChange
pub mod Anew
mod Sizes
