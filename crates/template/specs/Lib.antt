pub mod Sizes
pub mod Segments
pub mod Templates
pub mod Views
pub mod Figures
