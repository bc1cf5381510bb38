pub mod Claim
pub mod Convert
pub mod History
pub mod Stash
pub mod Written
