pub mod AnswerLemmas
mod ExistFacts
mod FilteringFacts
mod ListingFacts
mod RestFacts
mod WholeFacts
mod FoundFacts
