pub mod Auditing
pub mod Coming
pub mod Holding
