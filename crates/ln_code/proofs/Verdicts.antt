-- The verdict of a part on a row, segment by segment.
pub mod Calls
pub mod Sums
pub mod Stages
pub mod Prefixed
pub mod Machine
