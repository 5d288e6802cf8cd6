pub mod Store
pub mod Lends
pub mod Sound
pub mod LendsSlot
pub mod Copies
