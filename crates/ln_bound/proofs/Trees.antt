-- Values of trees, and lets substituted for their names.
pub mod LetLists
pub mod Operands
pub mod Plain
pub mod TypedOperands
pub mod Values
pub mod Views
pub mod Whole
