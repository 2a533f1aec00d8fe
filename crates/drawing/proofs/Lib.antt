pub mod DrawLaws
