pub mod FirstNames
pub mod Fitting
pub mod NumberLists
pub mod Rows
pub mod StageWords
pub mod Tokens
