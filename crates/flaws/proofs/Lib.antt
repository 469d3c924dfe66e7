mod BundleFacts
mod EntryFacts
mod LookFacts
pub mod RowFacts
pub mod WholeFacts
