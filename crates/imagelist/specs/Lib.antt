pub mod Images
pub mod PrivateCollecting
pub mod PrivateListing
pub mod PrivateRows
pub mod Telling
