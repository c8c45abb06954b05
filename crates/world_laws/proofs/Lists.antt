-- The lists of the world.
pub mod Pairs
pub mod Births
pub mod Members
pub mod Among
