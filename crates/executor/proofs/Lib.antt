pub mod ScriptLaws
pub mod FixtureLaws
mod CutLemmas
mod JoinLemmas
mod ScriptLemmas
mod SightLemmas
