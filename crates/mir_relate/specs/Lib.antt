pub mod Simulation
pub mod Alike
pub mod Leaves
pub mod Mild
pub mod Frames
pub mod Pass
pub mod Passes
pub mod Renumbered
