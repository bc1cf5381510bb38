pub mod Block
pub mod Examples
pub mod Records
pub mod Tables
