pub mod Points
pub mod Edges
pub mod Law
pub mod Pairs
pub mod Lines
pub mod Read
pub mod Three
