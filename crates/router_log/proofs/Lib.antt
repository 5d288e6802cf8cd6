pub mod DigitLemmas
pub mod HexLemmas
pub mod OctetLemmas
