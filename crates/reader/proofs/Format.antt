-- The law of the format, and what it stands on.
pub mod Numbers
pub mod Costs
pub mod Codes
pub mod Fields
pub mod Maps
pub mod Items
pub mod Records
pub mod Laws
