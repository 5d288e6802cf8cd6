pub mod Causes
pub mod Host
pub mod Memory
pub mod Shelf
pub mod Slots
pub mod World
