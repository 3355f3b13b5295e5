pub mod Entering
pub mod Misfits
pub mod Pushed
pub mod Readings
