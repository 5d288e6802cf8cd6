pub mod Lines
pub mod Moments
pub mod Numbers
pub mod Refusals
