pub mod Fields
pub mod Kinds
pub mod Maps
pub mod Messages
pub mod PrivateMessage
pub mod Varint
