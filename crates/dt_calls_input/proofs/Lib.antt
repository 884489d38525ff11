pub mod CallTurns
pub mod CallFolds
pub mod CallEnds
pub mod CallClosing
