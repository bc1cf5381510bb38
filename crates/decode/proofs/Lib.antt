pub mod DecodeLemmas
pub mod PartLemmas
