pub mod TellFacts
mod TextFacts
