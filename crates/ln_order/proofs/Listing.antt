-- The order of a row; all orders and all prefixes.
pub mod FoundLemmas
pub mod FrontLemmas
pub mod LongerLemmas
pub mod OrderExists
pub mod OrderLemmas
pub mod OrderUnique
pub mod OrdersLemmas
pub mod Placing
pub mod PrefixLemmas
