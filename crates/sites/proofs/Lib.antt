mod BookLemmas
mod BeginLemmas
mod TallyLemmas
pub mod Crosses
mod KeepLemmas
