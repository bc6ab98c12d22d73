-- The files of this folder.
pub mod Steps
pub mod Derivative
pub mod Blocks
pub mod Due
pub mod DueLaw
pub mod Plain
pub mod Run
pub mod Small
