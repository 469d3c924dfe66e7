pub mod PrivateFields
pub mod PrivateLabels
