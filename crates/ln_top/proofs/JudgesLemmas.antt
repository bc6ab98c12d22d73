pub mod AuditLaws
pub mod EdgesLaws
pub mod VerifyLaws
pub mod ThreeLaws
