pub mod AdmitLemmas
pub mod ClaimLemmas
pub mod HistoryLemmas
pub mod ConvertLemmas
pub mod ReloadLemmas
