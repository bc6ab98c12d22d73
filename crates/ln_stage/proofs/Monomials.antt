-- Monomials of a polynomial and stages of an expression.
pub mod LawLemmas
pub mod MonomialLemmas
pub mod OrderLists
pub mod StageLemmas
