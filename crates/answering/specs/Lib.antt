pub mod Faults
pub mod Messages
pub mod PrivateText
pub mod Text
pub mod Told
