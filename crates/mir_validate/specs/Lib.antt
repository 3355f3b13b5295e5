pub mod Inside
pub mod Codes
pub mod Terms
pub mod Walk
pub mod Complete
pub mod Checked
