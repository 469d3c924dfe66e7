pub mod Failing
pub mod Json
pub mod Message
pub mod Showing
pub mod Subject
pub mod Table
pub mod Unseen
pub mod WordCause
