pub mod Solution
pub mod Answer
pub mod PrivateSolution
pub mod Recall
pub mod PrivateRemembering
