mod CutLemmas
pub mod InstructionLaws
mod LeastLaws
pub mod NameLemmas
mod ReasonLaws
mod SpellsLaws
mod TextLemmas
