-- The lists and the filter of a program are those of its predicate.
pub mod FilteredLemmas
pub mod ListingLemmas
pub mod StagingLemmas
