-- An elaborated body is valid.
pub mod Fine
pub mod LaidFine
pub mod GlueFine
pub mod EndsFine
pub mod Stays
pub mod Calls
pub mod Sizes
pub mod UnitWeights
pub mod Few
