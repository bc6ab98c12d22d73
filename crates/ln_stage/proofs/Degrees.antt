-- Stage lists by total degree first.
pub mod DegreeLemmas
pub mod GradedLists
