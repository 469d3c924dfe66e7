pub mod StubFacts
mod NameFacts
mod RowFacts
