pub mod Keys
pub mod FlowCounts
pub mod TokenLists
