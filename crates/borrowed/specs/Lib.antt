pub mod Seen
pub mod Lent
pub mod Pulled
pub mod Rows
pub mod PrivateRows
pub mod PrivateText
pub mod PrivateRange
