pub mod Content
pub mod Kept
pub mod Key
pub mod Memo
pub mod Numbers
pub mod PrivateGeneration
pub mod PrivateIndex
pub mod PrivateSought
