pub mod Pieces
pub mod Sizes
