pub mod Reports
pub mod Inputs
pub mod Parts
