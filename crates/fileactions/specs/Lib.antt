pub mod Copying
pub mod Copies
pub mod Actions
pub mod Claims
pub mod Engine
pub mod Followed
