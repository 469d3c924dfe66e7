pub mod EndFacts
pub mod EvenFacts
pub mod ExceptFacts
pub mod GatherFacts
pub mod ImageFacts
pub mod LeavingFacts
pub mod PlainFacts
pub mod ReadFacts
