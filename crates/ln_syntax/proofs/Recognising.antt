-- The automaton, and the place of a fault.
pub mod Ahead
pub mod Walk
pub mod Builds
pub mod Fault
pub mod Depth
pub mod Either
