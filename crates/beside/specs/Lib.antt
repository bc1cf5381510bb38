pub mod Answer
pub mod Beside
pub mod Columns
pub mod Fill
