mod Moves
pub mod RollLemmas
