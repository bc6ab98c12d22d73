-- Lists of terms, and one divided by a variable.
pub mod Parts
pub mod Powers
pub mod Scaled
pub mod Vectors
pub mod Shortest
