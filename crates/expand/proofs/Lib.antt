mod ExpandLemmas
mod FormLemmas
mod OrdinaryLaws
mod OutputLemmas
mod PieceForms
mod ReadLaws
mod ReadLemmas
mod ScanLaws
mod ScanLemmas
mod SyntaxLaws
pub mod ValueLaws
mod WordLaws
pub mod WorseLaws
