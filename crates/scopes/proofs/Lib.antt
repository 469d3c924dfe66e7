mod ArgLemmas
mod EvaluateLemmas
pub mod HistoryLemmas
mod LineLemmas
mod MapLemmas
mod NameLemmas
pub mod Said
pub mod SaidLemmas
pub mod ScopeLemmas
