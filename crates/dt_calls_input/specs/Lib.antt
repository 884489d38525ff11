pub mod CallTexts
pub mod CallInputs
pub mod CallAnswers
pub mod CallEnds
