pub mod Lists
pub mod AnswerSteps
pub mod Names
pub mod Founded
pub mod CallKeys
pub mod EndSteps
pub mod LawSteps
pub mod Sides
