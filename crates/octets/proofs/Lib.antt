pub mod Fronts
pub mod RuleLemmas
