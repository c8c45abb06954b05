mod Acted
pub mod Alike
mod Asked
mod AlwaysDue
mod Created
mod Ended
mod Following
mod Opened
mod Others
mod Rewritten
mod Shown
mod Spaces
mod Wiped
mod Acts
mod Looks
mod Turns
