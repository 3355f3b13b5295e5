pub mod Blanks
pub mod Codes
pub mod Starts
pub mod Shown
