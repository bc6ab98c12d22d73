-- What the blocks and the filter of a part are worth on a row.
pub mod BlockLemmas
pub mod CoefficientLemmas
pub mod FilterLemmas
pub mod InputsLemmas
pub mod Smallness
