-- Blocks that follow the rules, their nodes and their expressions.
pub mod Known
pub mod NodeLists
pub mod Means
pub mod Together
pub mod Same
