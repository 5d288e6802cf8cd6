pub mod Examples
pub mod Halves
pub mod Joining
pub mod Limits
pub mod Options
