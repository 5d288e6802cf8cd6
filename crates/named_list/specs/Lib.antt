pub mod Named
pub mod Lends
pub mod Rings
pub mod Limits
