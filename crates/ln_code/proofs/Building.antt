-- What the stack code of trees does in a machine, and how long it is.
pub mod Names
pub mod Operands
pub mod Runs
pub mod Present
pub mod Lands
pub mod Sizes
pub mod Walks
