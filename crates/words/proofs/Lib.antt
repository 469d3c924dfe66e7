pub mod FlagLaws
mod FormLaws
pub mod LabelLemmas
pub mod PartLaws
pub mod QuoteLaws
pub mod WordLemmas
