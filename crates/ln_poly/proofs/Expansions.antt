-- The polynomials of nodes, one after the other.
pub mod Normals
pub mod Expanding
pub mod Nodes
pub mod Lets
pub mod Existing
