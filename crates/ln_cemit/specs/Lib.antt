-- Declares what contracts and laws speak of.
pub mod Ways
pub mod Emit
pub mod Checked
pub mod Law
pub mod Conditions
pub mod Names
pub mod Choose
pub mod Walked
pub mod Chosen
pub mod File
pub mod Whole
pub mod Heads
pub mod Emitted
pub mod Puts
