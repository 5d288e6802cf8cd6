pub mod Delivers
pub mod Drawn
pub mod Sent
pub mod Whole
