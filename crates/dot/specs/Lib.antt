pub mod Claimed
pub mod Drawn
pub mod Labels
pub mod Quoted
