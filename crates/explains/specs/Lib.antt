pub mod Explained
pub mod PrivateFailure
