-- Equal subtrees, kept in locals.
pub mod KeyLaws
pub mod Bounding
pub mod Numbering
