pub mod DigitLemmas
pub mod JoinLemmas
pub mod SliceLemmas
