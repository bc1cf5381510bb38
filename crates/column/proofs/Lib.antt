pub mod AppendLemmas
pub mod ColumnLemmas
pub mod RunLemmas
pub mod SliceAt
pub mod WordLemmas
