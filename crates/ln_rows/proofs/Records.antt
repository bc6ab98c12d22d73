-- Records of a text, one after the other.
pub mod FirstLemmas
pub mod MachineLemmas
pub mod PlainLemmas
pub mod LineLemmas
pub mod ReaderLemmas
pub mod RowsLemmas
