pub mod AnswerLaws
pub mod Room
