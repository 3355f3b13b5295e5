-- What is known holds of the states of a run.
pub mod Values
pub mod Frames
pub mod Statements
pub mod Starts
pub mod Points
pub mod Along
pub mod Seals
pub mod Related
pub mod Lent
pub mod Stands
