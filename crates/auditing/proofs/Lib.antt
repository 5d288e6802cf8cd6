mod BothLemmas
mod ComingLemmas
mod FrameLemmas
mod HoldingLemmas
mod LiftLemmas
mod RecordLemmas
mod StepLemmas
