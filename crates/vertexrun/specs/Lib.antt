pub mod PrivateMatches
