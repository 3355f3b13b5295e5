mod Loops
mod Members
mod Rules
mod Limits
mod Fitting
mod Paths
mod Written
