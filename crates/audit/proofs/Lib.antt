mod CompareLemmas
mod DifferenceLemmas
mod LiftLemmas
mod PacketLemmas
