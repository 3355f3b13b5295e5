pub mod Sums
pub mod Once
pub mod Reached
pub mod Falls
mod PathOrder
mod Bits
pub mod Told
mod Opened
mod Entering
mod Listed
pub mod Tests
mod Rows
pub mod Inside
pub mod Rising
pub mod Entered
pub mod Joining
pub mod AllSet
pub mod Leaving
pub mod Stepped
pub mod Searched
pub mod Begun
pub mod Turning
