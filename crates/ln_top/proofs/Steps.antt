-- The steps of the top call, whatever the command.
pub mod Chain
pub mod SourceLaws
pub mod Prepared
pub mod WordsLaws
pub mod Grounded
pub mod TopLaws
pub mod OneAnswer
