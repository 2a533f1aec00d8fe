pub mod ViewLaws
pub mod PutLaws
