-- How the text is appended, piece by piece.
pub mod Constants
pub mod Parts
pub mod Gathers
pub mod Loops
pub mod Whole
