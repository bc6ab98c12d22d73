-- The side conditions and their tests.
pub mod KeepLemmas
pub mod SetLemmas
