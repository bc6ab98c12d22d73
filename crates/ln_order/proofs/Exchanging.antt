-- Proves the laws of rows whose sites are exchanged.
pub mod RowSigns
pub mod Shifts
pub mod Layout
pub mod Shifted
pub mod Swaps
pub mod Sorting
