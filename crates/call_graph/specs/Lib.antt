pub mod Callees
pub mod Cost
pub mod Qualif
pub mod Graph
pub mod Reaching
pub mod Walk
pub mod Search
