pub mod Lists
pub mod Types
pub mod Bodies
pub mod Rules
