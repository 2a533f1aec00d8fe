pub mod AppendLaws
pub mod PutLaws
