pub mod Ends
pub mod Stages
pub mod Titles
pub mod Titled
