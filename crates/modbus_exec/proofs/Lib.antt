pub mod RunLemmas
pub mod Outcomes
pub mod AnswerLemmas
pub mod GrammarAnswers
pub mod ReadOutcomes
