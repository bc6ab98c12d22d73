-- The operations of a block.
pub mod Meaning
pub mod Nodes
pub mod Costs
pub mod Writes
pub mod Sealed
