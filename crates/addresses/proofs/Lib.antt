pub mod FormFacts
pub mod PlaceFacts
