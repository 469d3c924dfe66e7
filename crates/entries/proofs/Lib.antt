mod FrontFacts
mod DigitFacts
pub mod RowFacts
pub mod ApartFacts
mod FingerprintFacts
pub mod WrittenFacts
mod PrintingFacts
mod TogetherFacts
mod HeldFacts
mod PieceFacts
mod KeyFacts
mod MadeFacts
mod GrowingFacts
mod SlabFacts
mod Crosses
