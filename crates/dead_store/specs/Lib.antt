pub mod Pruned
pub mod Rounds
