pub mod Truncation
pub mod Operations
pub mod Slices
