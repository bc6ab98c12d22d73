pub mod Soundness
pub mod Measures
pub mod Trees
