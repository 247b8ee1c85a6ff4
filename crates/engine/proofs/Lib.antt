pub mod Sizes
pub mod Outcomes
pub mod Lawful
pub mod Going
pub mod Places
pub mod Checking
pub mod Judging
