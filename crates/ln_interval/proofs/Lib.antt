-- The lemmas prove that the operations on ranges hold their values and keep their limits; each file uses only those before it.
pub mod Signs
pub mod Pairs
pub mod Magnitudes
pub mod Ends
pub mod Monotone
