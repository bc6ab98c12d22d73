-- The files of this folder.
pub mod Engines
pub mod Polynomials
pub mod Judging
pub mod Values
pub mod Validity
