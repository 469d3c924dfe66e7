pub mod Flat
pub mod PrivateFlat
pub mod PrivateJoined
pub mod PrivateSpelled
pub mod Pruned
