pub mod Tests
pub mod Checks
pub mod Verdict
pub mod Steps
pub mod Facts
