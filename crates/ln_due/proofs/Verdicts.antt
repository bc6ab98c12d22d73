-- The verdict that a row requires, found along its list.
pub mod StepLemmas
pub mod AlongLemmas
pub mod Composition
pub mod DueLemmas
pub mod PlainLemmas
pub mod UniqueLemmas
