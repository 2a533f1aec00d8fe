pub mod RowLaws
pub mod StepLaws
pub mod RowIndexLaws
