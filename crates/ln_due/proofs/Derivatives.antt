-- The block of a scaled derivative.
pub mod Deriving
pub mod NodesIn
pub mod LeanNodes
pub mod Blocks
pub mod Gathering
