-- C without filters: the functions that are written, and the ends of the call.
pub mod TurningLaws
pub mod AnswerLaws
