pub mod FrontLemmas
pub mod GatheringLemmas
pub mod PlayLemmas
pub mod RoundLemmas
