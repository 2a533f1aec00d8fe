-- Document 01, as document 02 changes it, as definitions, a module a chapter. Of code it knows the reasons' numbers (ReasonNumbers) and how a verdict is read (Checks).
pub mod Limits
pub mod Reasons
pub mod ReasonNumbers
pub mod Numbers
pub mod Tables
pub mod Facts
pub mod Progression
pub mod Operators
pub mod Problems
pub mod Sections
pub mod Plans
pub mod Checks
pub mod LeastBounds
pub mod Searches
pub mod Walks
pub mod Refusals
pub mod Programs
