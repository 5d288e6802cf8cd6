pub mod Keyed
pub mod Keys
pub mod Known
pub mod Limits
pub mod Lists
