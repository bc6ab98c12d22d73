-- The files of this folder.
pub mod Verdicts
pub mod Parts
pub mod Derivatives
