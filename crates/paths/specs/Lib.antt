pub mod Fronts
pub mod Long
pub mod Name
pub mod Order
pub mod OrderLaws
pub mod Path
pub mod PrivateWalk
pub mod Reading
