pub mod Rolls
pub mod PrivateSeats
