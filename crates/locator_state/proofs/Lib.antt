pub mod FoundLemmas
mod PlaceLemmas
pub mod TurnsLemmas
