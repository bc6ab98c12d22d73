-- Proves that what is derived is read, and that what is read is derived.
pub mod Leaving
pub mod Complete
pub mod CompleteFile
pub mod Sound
pub mod SoundFile
pub mod Steps
pub mod Texts
pub mod ReadLemmas
pub mod Loops
pub mod FunLoops
