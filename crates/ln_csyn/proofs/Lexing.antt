-- These files prove that the scanner finds the longest token at each place, and that bytes have one list of tokens.
pub mod Longest
pub mod Scanned
