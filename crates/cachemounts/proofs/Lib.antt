pub mod HoldLemmas
pub mod ContentLemmas
pub mod IndexLemmas
pub mod StoreLemmas
mod BeginFacts
