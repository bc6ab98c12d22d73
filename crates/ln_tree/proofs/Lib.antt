pub mod ColumnLemmas
pub mod KeptLemmas
pub mod LaidLemmas
pub mod Monomials
pub mod Pairs
pub mod Powers
pub mod Searching
pub mod Words
