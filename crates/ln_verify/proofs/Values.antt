-- Values on the stack of the judge.
pub mod Ranges
