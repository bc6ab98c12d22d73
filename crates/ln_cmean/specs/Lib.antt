pub mod Answered
pub mod Chains
pub mod Places
pub mod Room
pub mod Scene
pub mod Slots
pub mod Carrying
