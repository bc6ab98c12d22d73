-- Blocks and programs as they are made.
pub mod BuildingLemmas
pub mod MakingLemmas
pub mod ProgramLemmas
