pub mod Crops
pub mod Lines
pub mod Sounds
pub mod Tables
pub mod Indices
