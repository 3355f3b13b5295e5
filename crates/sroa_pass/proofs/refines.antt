-- A crate with a split body refines the crate.
pub mod Parts
pub mod Spots
pub mod Pieces
pub mod Rooms
pub mod Copies
pub mod Nested
pub mod Blanks
pub mod Whole
pub mod Given
pub mod Stmts
pub mod Does
pub mod Frames
pub mod Law
pub mod Refined
