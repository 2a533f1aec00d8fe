pub mod FinderLaws
