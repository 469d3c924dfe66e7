pub mod BindSteps
pub mod FileSteps
mod LookUps
mod MatchSteps
mod FrontSteps
