pub mod Streams
pub mod HeldBytes
pub mod Feeding
pub mod Heard
pub mod Laws
pub mod Numbers
