-- Where the instructions stand in the blocks.
pub mod Lists
pub mod Blocks
pub mod Insts
pub mod Ends
