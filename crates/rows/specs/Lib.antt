pub mod Sizes
pub mod Stacks
pub mod Rows
pub mod Stores
