-- Whole tables, and that each has its canonical text.
pub mod TestLemmas
pub mod WholeParts
pub mod FromTokens
pub mod WholeFrom
pub mod TableWhole
pub mod TextTokens
pub mod HasTable
