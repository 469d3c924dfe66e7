pub mod Reached
pub mod Spelled
