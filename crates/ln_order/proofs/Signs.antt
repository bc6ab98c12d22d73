-- The order of infinitesimals, and the one sign of a row.
pub mod RankLemmas
pub mod RankingLemmas
pub mod RowSigns
pub mod RowsLemmas
pub mod SitesLemmas
