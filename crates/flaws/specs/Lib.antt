pub mod Flaws
pub mod Looks
pub mod Places
pub mod PrivateRows
