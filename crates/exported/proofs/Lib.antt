mod Characters
mod ExcludingFacts
mod OpsFacts
mod OrderLemmas
