pub mod DepthFacts
pub mod OperationLaws
mod PartFacts
pub mod PlainFacts
