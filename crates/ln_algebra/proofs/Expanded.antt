-- Integers and sums; the coefficients of an expression, from the terms of its expansion.
pub mod Ring
pub mod Sums
pub mod Expansion
pub mod Shift
pub mod Normal
pub mod Degree
pub mod Product
pub mod Factors
