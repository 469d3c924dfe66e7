pub mod Naming
pub mod Stubbing
