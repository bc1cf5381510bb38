pub mod FormLemmas
pub mod StridesLemmas
