pub mod Pieces
pub mod Faults
pub mod Scanned
pub mod GoesOn
