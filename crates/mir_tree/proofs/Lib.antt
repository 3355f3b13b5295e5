pub mod TypesBack
