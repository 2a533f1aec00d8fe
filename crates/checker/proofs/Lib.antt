pub mod CheckLaws
pub mod NoteLaws
