pub mod PrivateFollowing
