pub mod Look
pub mod Expect
pub mod Places
pub mod Expressions
pub mod Statements
pub mod Scripts
pub mod Telling
