pub mod Service
pub mod Rows
pub mod Serving
pub mod Serves
