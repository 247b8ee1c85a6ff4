pub mod Classes
pub mod Constants
pub mod Laws
pub mod Lexeme
pub mod Reading
pub mod Scans
pub mod Spelling
