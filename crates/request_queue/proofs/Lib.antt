pub mod AgainLemmas
mod CountLemmas
pub mod DistinctLemmas
pub mod DropLemmas
pub mod EidLemmas
pub mod FoundLemmas
pub mod IndexLemmas
pub mod OpenLemmas
pub mod PairLemmas
mod PassingLemmas
pub mod RestLemmas
pub mod TermLemmas
