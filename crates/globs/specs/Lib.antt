pub mod Cut
pub mod Component
pub mod Grammar
pub mod Reading
pub mod Glob
pub mod PrivateSearch
pub mod PrivateReading
pub mod PrivateShape
