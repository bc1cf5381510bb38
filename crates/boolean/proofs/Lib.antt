pub mod BitsLemmas
pub mod FormLemmas
