-- Proves the laws of exchanges of sites.
pub mod Folds
pub mod Vectors
pub mod Values
pub mod Signs
pub mod Tests
