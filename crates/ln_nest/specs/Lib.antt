pub mod Nested
pub mod View
pub mod Lean
pub mod Reach
