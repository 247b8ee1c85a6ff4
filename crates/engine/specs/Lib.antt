pub mod Views
pub mod Calls
pub mod Log
pub mod Agreement
pub mod Successions
pub mod Checked
