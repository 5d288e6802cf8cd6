pub mod CallLemmas
pub mod Fronts
pub mod MomentLemmas
pub mod OctetLemmas
pub mod OrderLemmas
pub mod Records
pub mod Runs
pub mod StandardFacts
