-- The fields of a record as a row.
pub mod RowLemmas
pub mod PlainRowLemmas
pub mod RangeLemmas
pub mod ExactLemmas
pub mod NameLemmas
