pub mod Renaming
pub mod Places
