-- Proves that what is written is the file, up to lines.
pub mod Spells
pub mod PutLemmas
pub mod Writes
pub mod Relined
pub mod Spelled
pub mod Laying
pub mod Calls
pub mod Lays
pub mod LinesLemmas
pub mod LineEnds
