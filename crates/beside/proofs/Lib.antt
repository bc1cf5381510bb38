mod FillLemmas
mod NumberLemmas
