pub mod SeenFacts
pub mod PulledFacts
pub mod LookFacts
pub mod PutFacts
mod FewDigits
mod NumberFacts
pub mod RowFacts
