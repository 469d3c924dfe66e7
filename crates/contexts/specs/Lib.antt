pub mod Context
pub mod Left
pub mod PrivateLeft
pub mod PrivatePlaces
