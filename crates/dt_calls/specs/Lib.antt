pub mod CallOutcomes
pub mod Happening
pub mod Parts
pub mod CallCourses
pub mod Going
