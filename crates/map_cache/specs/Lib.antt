pub mod Cache
pub mod Filed
pub mod Indexed
pub mod Limits
pub mod Lists
pub mod Named
