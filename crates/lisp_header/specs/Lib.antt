pub mod Header
pub mod Versions
