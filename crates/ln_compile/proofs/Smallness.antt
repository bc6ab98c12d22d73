-- What operations push is small.
pub mod Pushing
pub mod SourceNodes
pub mod SmallBlocks
pub mod Polynomials
