pub mod Opened
pub mod Sample
mod FactsStep
mod FactsDrop
