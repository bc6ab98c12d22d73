-- Stage lists: the walk that lists them, and that the cut loses nothing.
pub mod Cut
pub mod Walk
pub mod Stages
pub mod Along
pub mod Listings
pub mod Layers
pub mod GradedStages
