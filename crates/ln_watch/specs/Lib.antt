pub mod Fold
pub mod Panel
pub mod Watchers
pub mod Worked
