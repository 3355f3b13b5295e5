-- The code gives the body of the definition, and the relation and the function of the definition are one.
pub mod Staying
pub mod Going
pub mod Judged
pub mod Ready
pub mod Once
