pub mod Terms
pub mod Forms
