-- Filters that follow the rules, and truncated numbers.
pub mod Cutting
pub mod Near
pub mod FilterKnown
pub mod ErrorLaws
pub mod Filtering
