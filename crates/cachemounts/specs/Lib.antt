pub mod Holds
pub mod Content
pub mod Changes
pub mod StoreValue
pub mod Store
pub mod PrivateContent
pub mod PrivateIndex
