pub mod Gives
pub mod Image
pub mod Pieces
