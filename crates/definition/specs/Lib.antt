pub mod Definition
pub mod Lines
pub mod PrivateReading
pub mod PrivateWriting
pub mod Reading
