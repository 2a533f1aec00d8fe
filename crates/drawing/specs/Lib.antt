pub mod Pieces
pub mod Draws
