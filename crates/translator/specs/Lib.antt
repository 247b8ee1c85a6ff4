pub mod Translation
pub mod Code
pub mod Names
pub mod Look
pub mod Expressions
pub mod Statements
pub mod Scripts
