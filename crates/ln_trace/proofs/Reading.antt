-- Lines and traces read, and where reading stops.
pub mod OneLine
pub mod Whole
