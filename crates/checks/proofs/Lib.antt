mod CheckFacts
mod ImageFacts
mod ListFacts
mod MarkFacts
mod TextFacts
