pub mod Stays
pub mod SiteValid
