pub mod Wellformed
pub mod Commands
pub mod Arrivals
pub mod Centres
pub mod Errors
pub mod Answers
pub mod Makers
