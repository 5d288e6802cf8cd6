pub mod CaptureLemmas
pub mod SettingsLemmas
