pub mod FlatFacts
pub mod MarkFacts
pub mod SpellSteps
pub mod SpellingFacts
