pub mod Alike
mod Clauses
mod FusedCalls
mod ImageLemmas
mod RecordLemmas
pub mod Runs
mod SlotLemmas
