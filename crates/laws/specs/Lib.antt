-- The facts that the laws state, by name.
pub mod Valid
pub mod Joins
pub mod Bounds
pub mod Steps
