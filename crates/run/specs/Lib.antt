pub mod Steps
pub mod Runs
pub mod Ready
pub mod Kinds
