pub mod Files
pub mod Images
pub mod Plan
pub mod Request
pub mod Sources
pub mod Value
pub mod PrivateSorted
pub mod PrivateValue
