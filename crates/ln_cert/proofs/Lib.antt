-- The lemma files of this folder.
pub mod Texts
pub mod Reading
pub mod Writing
