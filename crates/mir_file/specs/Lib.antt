pub mod Items
pub mod Clashes
pub mod Declarations
pub mod Functions
