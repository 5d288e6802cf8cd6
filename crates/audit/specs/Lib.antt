pub mod Compared
pub mod Lifted
pub mod Limits
pub mod Packets
pub mod Requests
