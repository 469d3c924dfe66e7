pub mod Proper
pub mod Spelled
pub mod Texts
