pub mod First
pub mod Flag
pub mod Pointing
pub mod PrivateSpot
pub mod Spot
pub mod Stands
pub mod Word
