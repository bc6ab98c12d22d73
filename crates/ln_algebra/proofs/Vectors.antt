-- Exponent vectors: sums of vectors, and what a vector covers.
pub mod Splits
pub mod Ways
pub mod Covering
pub mod Zeros
