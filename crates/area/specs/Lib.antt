pub mod Digits
pub mod Fault
pub mod Slice
