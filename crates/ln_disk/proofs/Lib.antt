pub mod FlowLemmas
pub mod TriesLemmas
