pub mod Cutting
pub mod Judging
pub mod Tabling
pub mod Walking
pub mod Sizes
pub mod Fronts
