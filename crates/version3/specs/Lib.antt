-- The public description of the Fast Downward translator output, version 3: what a problem holds, how it is spelled, and when it is in
-- order. Nothing here is about tables, tasks or methods.
pub mod Problems
pub mod Spelling
pub mod Order
