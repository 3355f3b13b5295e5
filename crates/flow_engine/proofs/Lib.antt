pub mod Lists
pub mod Laws
pub mod Going
pub mod Least
pub mod Waiting
