pub mod Cells
pub mod Numbering
pub mod Holding
pub mod Filling
pub mod Answers
pub mod Predicates
