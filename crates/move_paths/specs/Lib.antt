pub mod Effects
pub mod Inits
pub mod Decided
pub mod Rows
pub mod Facts
pub mod Lattice
pub mod Finding
