mod ReportLaws
pub mod CutLaws
pub mod PartLaws
mod ReadLaws
