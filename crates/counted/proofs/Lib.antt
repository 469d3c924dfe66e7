pub mod GatheringFacts
pub mod Reading
pub mod Writing
