pub mod Missed
pub mod Missing
