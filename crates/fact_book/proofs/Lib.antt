pub mod Found
pub mod Walking
pub mod Adding
pub mod Ends
