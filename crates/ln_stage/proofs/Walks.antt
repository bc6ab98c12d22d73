-- The walk by prefixes, step by step.
pub mod PairsLemmas
pub mod StartLemmas
pub mod StepLemmas
pub mod TurnLemmas
pub mod WalkLemmas
pub mod SiteLemmas
pub mod SiteWalkLemmas
pub mod VisitLemmas
