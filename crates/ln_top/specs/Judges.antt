pub mod Verify
pub mod Audit
pub mod Three
pub mod Edges
