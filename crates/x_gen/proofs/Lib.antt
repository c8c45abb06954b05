pub mod OddLemmas
pub mod DrawLemmas
pub mod Drawn
