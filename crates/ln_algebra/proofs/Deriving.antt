-- Scaled derivatives: the product rule, and their values as coefficients.
pub mod Taylor
pub mod Derived
pub mod Leibniz
