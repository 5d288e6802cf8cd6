pub mod ChoiceLemmas
pub mod ShareLemmas
