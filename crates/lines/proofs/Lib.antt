mod LineLaws
pub mod PlaceLaws
