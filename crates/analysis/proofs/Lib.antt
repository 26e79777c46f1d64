pub mod Marking
pub mod Defined
pub mod Least
