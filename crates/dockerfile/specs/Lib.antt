pub mod Dockerfile
pub mod Faults
pub mod PrivateDockerfile
