pub mod Without
pub mod Decided
pub mod equal
pub mod refines
pub mod valid
pub mod PassLaws
