pub mod CommandLine
pub mod Flags
pub mod Llb
pub mod PrivateTasks
pub mod Sources
pub mod Tasks
