pub mod Symbols
pub mod Large
pub mod Parts
pub mod Deep
pub mod Unfit
