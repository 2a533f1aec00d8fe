pub mod AnswerLaws
mod WordLaws
