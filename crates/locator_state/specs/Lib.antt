pub mod Echoes
pub mod Limits
pub mod Lists
pub mod Observed
pub mod Probes
pub mod Solicits
pub mod Turns
