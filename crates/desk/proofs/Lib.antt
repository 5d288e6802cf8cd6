pub mod Entries
pub mod HostLemmas
pub mod Reading
pub mod SlotLemmas
pub mod SteadyLemmas
