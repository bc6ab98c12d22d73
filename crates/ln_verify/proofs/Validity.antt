-- A valid listing has the perturbed sign.
pub mod One
pub mod Tells
