pub mod Widths
pub mod Numbers
