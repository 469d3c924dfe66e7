pub mod Graph
pub mod Hash
pub mod Index
pub mod Places
pub mod PrivateIndex
pub mod PrivateLast
pub mod Reach
pub mod WellFormed
