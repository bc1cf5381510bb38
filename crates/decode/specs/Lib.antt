pub mod Decode
pub mod Decoded
