-- A text has one result.
pub mod Either
pub mod OneAnswer
