-- Gathers the proofs on blocks that are numbered in order of first sight.
pub mod SightLemmas
pub mod FirstSightLemmas
pub mod Members
