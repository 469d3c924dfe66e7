mod CutFacts
pub mod FlagLaws
pub mod ListLaws
