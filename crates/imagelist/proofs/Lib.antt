mod CollectFacts
mod LawFacts
mod ListingFacts
mod RowFacts
mod TextFacts
