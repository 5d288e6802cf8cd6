pub mod Action
pub mod Address
pub mod Eid
pub mod Eids
pub mod Limits
pub mod Locator
pub mod Orders
pub mod Record
