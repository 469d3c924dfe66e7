pub mod CodeLemmas
pub mod MarkFacts
