pub mod Piece
pub mod Making
