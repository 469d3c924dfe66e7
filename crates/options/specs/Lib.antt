pub mod Copy
pub mod Item
pub mod Lists
pub mod Mount
pub mod Numbers
pub mod PrivateMount
pub mod Value
