pub mod Engines
pub mod Lines
pub mod Building
pub mod Exponents
pub mod Filters
pub mod Following
pub mod Verdicts
pub mod OneOrder
pub use Rattle.ln_code.proofs.Engines.Steps.{cut_leads, leads_get, leads_input, leads_push, two_leads}
