-- The turns of nodes.
pub mod Longer
pub mod Honesty
pub mod Going
pub mod GoingRows
pub mod Noting
pub mod Binding
pub mod Compactions
pub mod Named
