pub mod Tags
pub mod Bytes
