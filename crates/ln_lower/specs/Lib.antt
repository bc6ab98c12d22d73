pub mod Nodes
pub mod Lowered
pub mod Distinct
pub mod StackCode
pub mod Wrote
