pub mod FollowLemmas
mod LentLemmas
mod EndLemmas
