pub mod Gives
pub mod Strict
pub mod Written
