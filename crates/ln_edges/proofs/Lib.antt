pub mod RowLemmas
pub mod LawLemmas
pub mod PairLemmas
pub mod ReadLemmas
pub mod OneLemmas
pub mod SuitLemmas
pub mod ThreeLemmas
