pub mod StackLaws
mod PushLaws
pub mod RowLaws
