-- What is found: segments, numbers, count and weight.
pub mod FoldLemmas
pub mod KeptLemmas
pub mod ResultLemmas
pub mod TallyLemmas
pub mod SegmentLemmas
pub mod ListedLemmas
pub mod SamePoly
