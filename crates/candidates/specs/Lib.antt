pub mod Walk
pub mod Comes
pub mod Asking
