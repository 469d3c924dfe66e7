pub mod Counted
pub mod Counting
pub mod Edges
pub mod Gathering
