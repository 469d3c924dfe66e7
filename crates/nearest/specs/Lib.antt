pub mod Nearness
pub mod PrivateNearness
