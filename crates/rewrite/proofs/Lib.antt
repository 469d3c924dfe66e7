pub mod BecomeFacts
pub mod DifferFacts
pub mod FlatFacts
pub mod FlattenedFacts
pub mod FreshFacts
pub mod JoinFacts
pub mod LawFacts
pub mod LinkFacts
pub mod MadeFacts
pub mod MarkedFacts
pub mod OnceFacts
pub mod OrderFacts
pub mod PairFacts
pub mod PrunedFacts
pub mod ReachFacts
mod RenameFacts
pub mod SpelledFacts
pub mod SpelledValues
