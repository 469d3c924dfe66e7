mod CutLaws
pub mod FrontLaws
pub mod PathLaws
pub mod ReadingLaws
mod SpelledLaws
mod WalkLaws
