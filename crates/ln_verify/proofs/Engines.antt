-- Runs of the rules, line by line, in both versions.
pub mod AtSpots
pub mod Steps
pub mod Versions
