pub mod BitLemmas
pub mod TurnLemmas
pub mod MatrixLemmas
pub mod SingleLemmas
