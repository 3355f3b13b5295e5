-- The code makes the body of the definition.
pub mod Redirects
pub mod InOrder
pub mod Edges
pub mod Whole
