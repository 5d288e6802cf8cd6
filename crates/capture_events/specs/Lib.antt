pub mod Came
pub mod Events
pub mod Seconds
