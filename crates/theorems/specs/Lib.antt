-- The words in which the theorems are stated.
pub mod Runs
pub mod Solutions
pub mod Demand
pub mod Emitted
pub mod StepLists
pub mod Shapes
pub mod Numbers
pub mod Hints
