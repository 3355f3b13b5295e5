mod Digits
pub mod PiecesFound
pub mod PiecesSound
