pub mod FactsHold
pub mod Judged
pub mod Loops
pub mod NumberTold
pub mod OrderTold
pub mod RowTold
pub mod Runs
pub mod UsesTold
