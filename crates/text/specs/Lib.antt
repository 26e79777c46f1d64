pub mod Names
pub mod Text
