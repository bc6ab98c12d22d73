-- The function with two parameters, and a call in the whole file.
pub mod Orders
pub mod Finds
pub mod Files
pub mod Agrees
pub mod Heads
pub mod Says
