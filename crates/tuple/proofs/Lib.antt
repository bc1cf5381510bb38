pub mod PairLemmas
pub mod FormLemmas
