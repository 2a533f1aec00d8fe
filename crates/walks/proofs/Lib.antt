pub mod PickLaws
pub mod RowLaws
pub mod LevelLaws
pub mod TryLaws
pub mod GoingLaws
