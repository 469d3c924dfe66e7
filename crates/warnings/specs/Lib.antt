pub mod Escapes
pub mod Known
pub mod Place
pub mod PrivateKnown
pub mod Table
pub mod Warnings
