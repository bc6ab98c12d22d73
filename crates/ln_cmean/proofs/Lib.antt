pub mod Slots
pub mod Chains
pub mod Look
pub mod Places
pub mod Within
pub mod Named
pub mod Runs
pub mod Carrying
