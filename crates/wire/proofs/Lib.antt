pub mod FieldLemmas
pub mod KindLemmas
mod MapLemmas
pub mod MessageLemmas
pub mod ReadLemmas
mod VarintLemmas
