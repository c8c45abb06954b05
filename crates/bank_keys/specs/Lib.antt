pub mod Ksm
pub mod Waiting
pub mod Rtr
pub mod Taking
pub mod Passing
pub mod Refusing
