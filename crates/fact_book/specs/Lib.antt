pub mod Facts
pub mod Book
pub mod Texts
