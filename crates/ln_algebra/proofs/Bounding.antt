-- Weights, weighted sums and sizes as bounds.
pub mod Weights
pub mod Sizes
pub mod Whole
pub mod Bounds
