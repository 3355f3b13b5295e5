pub mod Whole
pub mod Refusing
pub mod Causes
pub mod ItemByItem
pub mod OfTree
