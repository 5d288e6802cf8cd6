pub mod Ranges
pub mod ReadAgain
