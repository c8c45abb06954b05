pub mod Topics
pub mod Lines
