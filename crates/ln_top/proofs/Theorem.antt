-- The clauses that the theorem is made of.
pub mod ByValueLaws
pub mod HeadlineLaws
pub mod EmittedLaws
pub mod Standing
pub mod TrustedLaws
pub mod ListedLaws
pub mod EdgedLaws
pub mod ExplainedLaws
pub mod AuditedLaws
pub mod ProductsLaws
pub mod Feeds
