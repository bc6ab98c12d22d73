-- Expressions: what their tokens are, say and count.
pub mod Meaning
pub mod Counts
pub mod Found
pub mod Fitting
pub mod Stack
