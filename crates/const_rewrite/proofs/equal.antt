-- The code's body, seen with its types, is the defined one.
pub mod Found
pub mod Terms
pub mod Fronts
pub mod Stmts
pub mod Whole
