-- Proves the test whether exchanging neighbouring sites keeps a polynomial or turns it into its opposite.
pub mod Variables
pub mod Terms
pub mod Pairs
