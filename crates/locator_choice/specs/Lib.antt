pub mod Choice
pub mod Hash
pub mod Limits
pub mod Shares
