-- Terms sorted, with like ones collected.
pub mod Gathering
pub mod Equality
pub mod Merging
pub mod Collected
pub mod Summing
pub mod Rising
pub mod Merges
pub mod Steps
pub mod Added
pub mod Concatenated
