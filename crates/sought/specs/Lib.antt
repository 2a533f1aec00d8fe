-- The words in which the theorems of the search are stated.
pub mod Findings
pub mod Outcomes
