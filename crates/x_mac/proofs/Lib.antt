pub mod ChainLemmas
pub mod StandardFacts
pub mod PairLemmas
