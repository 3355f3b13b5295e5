pub mod Gathering
pub mod Rises
pub mod Sides
pub mod Ordered
pub mod Spans
pub mod Rows
