-- Ranges, sizes and loads of nodes, one after the other.
pub mod Fitting
pub mod LetSteps
pub mod LoadLaws
pub mod Measuring
pub mod RoomLaws
pub mod Weighing
pub mod Nodes
pub use Measuring.{lets_begin, lets_more, lets_stop}
