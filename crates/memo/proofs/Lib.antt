mod ContentLemmas
pub mod Crosses
mod GenerationLemmas
pub mod GrowLemmas
mod IndexKept
mod MemoLemmas
mod NumberLemmas
mod WrittenLemmas
