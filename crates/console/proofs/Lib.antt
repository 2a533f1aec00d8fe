pub mod Outcomes
pub mod Preconditions
pub mod Calls
