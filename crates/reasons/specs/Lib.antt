pub mod Leaving
pub mod PrivateReasons
pub mod Reasons
