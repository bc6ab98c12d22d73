pub mod TermLists
pub mod Sorting
pub mod Loads
pub mod Derivations
pub mod Evaluations
pub mod Expansions
pub mod Packing
