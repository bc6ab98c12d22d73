-- Tokens spell one list of items.
pub mod OneSpelling
pub mod OneTree
pub mod Parts
pub mod PlacesWithin
