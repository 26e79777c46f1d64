-- What the tables of a function tell of it.
pub mod Each
pub mod Reading
pub mod Places
pub mod Shown
pub mod Insts
pub mod Blocks
pub mod Orders
