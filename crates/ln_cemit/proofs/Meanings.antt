-- Proves what the functions of blocks and filters mean.
pub mod Numbers
pub mod Blocks
pub mod Follows
pub mod Filters
pub mod Means
pub mod LocalCells
