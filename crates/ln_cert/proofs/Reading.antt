-- Lines and listings read, and where reading stops.
pub mod FirstWords
pub mod OneLine
pub mod Walk
pub mod Whole
