pub mod ImageLemmas
pub mod PieceLemmas
