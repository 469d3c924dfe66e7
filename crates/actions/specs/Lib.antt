pub mod Copy
pub mod PrivateMounts
pub mod PrivateTexts
pub mod Run
pub mod Texts
