pub mod NodeRuns
pub mod Reruns
pub mod Answering
pub mod Owing
