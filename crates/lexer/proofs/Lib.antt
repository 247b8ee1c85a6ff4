mod Ahead
mod Filling
mod Cover
mod Fronts
mod Judged
mod Numerals
mod Readings
mod Tokens
pub mod Unique
