pub mod Args
pub mod Evaluate
pub mod History
pub mod PrivateArgs
pub mod PrivateEvaluate
pub mod PrivateMaps
pub mod Scope
