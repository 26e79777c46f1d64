-- What the tables come to when a file is stored in them.
pub mod Tables
pub mod Entries
pub mod Contents
pub mod Values
pub mod Blocks
pub mod Sizes
pub mod Theorem
