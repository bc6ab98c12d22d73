pub mod Subtrees
pub mod Operations
