pub mod AdmissionLemmas
pub mod FormLemmas
pub mod PlaceLemmas
pub mod RunFormLemmas
pub mod StandLemmas
