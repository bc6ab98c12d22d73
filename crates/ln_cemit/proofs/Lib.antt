-- Declares what the laws and the code cite.
pub mod Conditions
pub mod Meanings
pub mod Writing
pub mod Choices
