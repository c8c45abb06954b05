pub mod Answering
pub mod Requests
pub mod Recovery
pub mod Rows
pub mod Serving
pub mod Giving
pub mod Serves
