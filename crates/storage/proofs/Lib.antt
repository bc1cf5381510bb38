pub mod SinkLemmas
pub mod StoreLemmas
