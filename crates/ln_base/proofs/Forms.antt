-- The lemma files of this folder.
pub mod Walk
pub mod OneFault
pub mod Fault
pub mod Left
pub mod Judging
pub mod Colon
pub mod Picked
