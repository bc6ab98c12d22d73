pub mod Gaps
pub mod HasAnswer
pub mod Longest
pub mod OneAnswer
pub mod Scanned
pub mod Slices
