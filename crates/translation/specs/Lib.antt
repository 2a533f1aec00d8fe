-- The words in which the theorems on the emitted problem are stated.
pub mod Counts
pub mod Sizes
