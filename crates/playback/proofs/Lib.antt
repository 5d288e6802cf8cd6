pub mod ClassicLemmas
pub mod DeterminedLemmas
pub mod FrontLemmas
pub mod NgLemmas
pub mod OutputLemmas
pub mod PassingLemmas
pub mod WrittenLemmas
