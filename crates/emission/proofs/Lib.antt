pub mod JobLaws
