pub mod Live
pub mod Rows
pub mod Facts
pub mod Bits
pub mod Lattice
pub mod Decided
