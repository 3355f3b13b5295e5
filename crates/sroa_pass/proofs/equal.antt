-- The code's body, seen with its types, is the defined one.
pub mod Loops
pub mod Own
pub mod Chosen
pub mod Held
pub mod Spread
pub mod Stmts
pub mod Whole
pub mod Ready
