-- The nested tree: its polynomial, ranges, cost and nodes.
pub mod Same
pub mod Bounds
pub mod Costs
pub mod Leans
pub mod Steps
pub mod Whole
pub mod Nests
pub mod Squares
pub mod Halving
