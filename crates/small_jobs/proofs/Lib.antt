pub mod Laws
pub mod Works
pub mod Race
pub mod Sent
