-- Sound and exact trees: their values are in their ranges.
pub mod ExactLaws
pub mod KeptLaws
pub mod RangeLaws
pub mod SoundLaws
pub mod SoundTests
pub mod WidthLaws
pub use ExactLaws.{lets_start, next_fit, next_range}
