-- Truncated numbers and what they stand for.
pub mod Bits
pub mod Steady
pub mod Approximating
