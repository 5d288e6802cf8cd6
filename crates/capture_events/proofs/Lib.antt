pub mod EventLemmas
pub mod SecondsLemmas
