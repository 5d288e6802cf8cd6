pub mod Forwarded
pub mod Limits
pub mod Rules
pub mod Wrapped
