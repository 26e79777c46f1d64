pub mod Find
pub mod Types
pub mod Rows
pub mod Refusals
pub mod Names
