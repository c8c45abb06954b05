-- Key service messages, disconnections and the answers to them are accepted exactly where such a message is.
pub mod Answers
pub mod Names
pub mod Rows
pub mod Steps
