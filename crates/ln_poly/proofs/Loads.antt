-- Weights and sizes that make room for the expansion.
pub mod Weighing
pub mod Room
pub mod Lightness
pub mod Sizing
