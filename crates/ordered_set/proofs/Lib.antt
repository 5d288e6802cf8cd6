pub mod KeysLemmas
pub mod TiedLemmas
