pub mod Delivered
pub mod Ecn
pub mod Opened
pub mod Unwrapped
