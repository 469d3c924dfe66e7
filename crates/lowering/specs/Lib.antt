pub mod Meaning
pub mod Means
pub mod Order
pub mod Outcome
pub mod Positions
pub mod PrivateGrowth
pub mod PrivateRoom
pub mod Vertices
