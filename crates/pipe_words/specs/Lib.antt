pub mod Commands
pub mod Numbers
pub mod Paths
pub mod Stages
pub mod Tokens
