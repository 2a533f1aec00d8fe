pub mod Groups
pub mod RowTexts
