pub mod Definition
pub mod Exec
pub mod File
pub mod Op
pub mod Source
