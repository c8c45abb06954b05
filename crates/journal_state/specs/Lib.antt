pub mod States
pub mod Results
pub mod Loading
pub mod Keeping
pub mod Making
