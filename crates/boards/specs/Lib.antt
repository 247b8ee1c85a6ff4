pub mod Meaning
pub mod Making
pub mod Kept
pub mod Table
pub mod Tile
pub mod Kinds
pub mod Crop
