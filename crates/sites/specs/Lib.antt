pub mod Cases
pub mod PrivateSeats
pub mod Seats
