pub mod Walking
pub mod Layers
pub mod Asked
pub mod Ended
