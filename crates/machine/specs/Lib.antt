pub mod Endings
pub mod Codes
pub mod Operations
pub mod Steps
pub mod Runs
pub mod Laws
pub mod Views
