pub mod GroupLaws
pub mod FitLaws
