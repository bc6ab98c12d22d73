-- The operations of a filter.
pub mod Style
pub mod Lets
pub mod Meaning
pub mod Nodes
pub mod Leaves
pub mod Costs
pub mod Marks
pub mod Writes
pub mod Sealed
