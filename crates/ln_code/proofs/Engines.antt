-- Runs of an engine, and of one that follows another.
pub mod Follow
pub mod Cells
pub mod Quotients
pub mod Steps
pub mod Ends
pub mod Depths
pub mod Runs
pub mod Behind
