-- Monomials as numbers.
pub mod Words
pub mod Numbers
pub mod Rows
pub mod Loops
pub mod Opened
pub mod Terms
pub mod Back
pub mod Fields
pub mod Whole
