mod Following
mod Arriving
mod Paying
mod BatchEnds
mod Inboxes
pub mod Orders
mod KeysEntered
pub mod Noticing
pub mod Mirrors
mod Likening
