pub mod FactorsLaws
pub mod TargetLaws
