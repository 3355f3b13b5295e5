pub mod equal
pub mod Numbers
pub mod Renumbered
pub mod refines
pub mod valid
pub mod PassLaws
