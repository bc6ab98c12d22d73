-- The conditions of the subset hold of what is emitted.
pub mod Names
pub mod Numbered
pub mod Shapes
pub mod Keeping
pub mod Named
pub mod Steps
pub mod Titles
pub mod Kept
