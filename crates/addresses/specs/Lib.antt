pub mod Address
pub mod PrivateAddresses
