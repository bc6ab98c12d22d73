pub mod Alike
pub mod Line
pub mod Target
pub mod Factors
