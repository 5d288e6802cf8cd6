pub mod Drops
pub mod Hops
pub mod Joined
pub mod Lengths
pub mod LoweredSum
pub mod Renewed
pub mod Sizes
pub mod Tunnel
