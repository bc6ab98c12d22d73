-- Values of scaled derivatives, pair by pair and term by term.
pub mod Parts
pub mod Room
pub mod Summing
