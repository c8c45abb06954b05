pub mod Bits
pub mod Tables
pub mod Des
pub mod Combined
pub mod Wiring
pub mod RoundKey
pub mod Schedule
pub mod Block
