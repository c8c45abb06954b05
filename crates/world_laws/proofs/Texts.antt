-- What texts say: parts of messages are well formed, and what a party writes says its message.
pub mod Bodies
pub mod Drawn
pub mod Names
pub mod Own
pub mod OwnMessages
