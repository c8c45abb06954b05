mod Steps
mod Room
mod Forms
pub mod Verdicts
pub mod Editing
