pub mod PlayLemmas
pub mod RunsLemmas
