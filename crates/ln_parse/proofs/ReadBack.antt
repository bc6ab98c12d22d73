-- What canonical text means when it is read.
pub mod NamePlaces
pub mod InputsThere
pub mod ScopeNames
pub mod ValueBack
pub mod ArgsBack
pub mod PredBack
pub mod FileClean
pub mod CleanValue
