pub mod Spans
pub mod Fronts
pub mod Cutting
pub mod Waiting
pub mod Answering
pub mod Pushing
pub mod Inputs
