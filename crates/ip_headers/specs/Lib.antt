pub mod Addr
pub mod Canonical
pub mod Checksum
pub mod Ip
pub mod Packet
pub mod Prefix
pub mod Tuple
pub mod Udp
