pub mod Stays
