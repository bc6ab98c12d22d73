-- A source is accepted, or refused for one fault.
pub mod FaultlessLemmas
pub mod Judging
pub mod OneRefusal
pub mod Staying
pub mod TextFits
