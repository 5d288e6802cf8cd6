-- How far a play has come when its machine is called.
use Rattle.std.specs.Prelude.{◌≡◌, ℕ, ◌+◌, ◌*◌, ◌<◌, ◌≤◌, Some, unwrap_or}
use Rattle.capture_io.specs.Frame.{Frame}
use Rattle.playback.specs.Limits.{most_frames}
use Rattle.playback.specs.declared.progress.Progress.{Progress}

module _ {M : Type 0} (is_ready : Progress → ℕ → M → Type 0) where
  -- a machine is ready to begin a second, behind events of a play before that second
  pub record MayTick (second written : ℕ) (machine : M) : Type 0 where
    pub progress : Progress
    pub ready : is_ready progress written machine
    pub later : unwrap_or progress.moment 0 < second * 1000000000
    pub few : progress.frames ≤ most_frames

  -- a machine is ready to take a frame, behind events of a play that the frame may follow
  pub record MayTake (frame : Frame) (written : ℕ) (machine : M) : Type 0 where
    pub progress : Progress
    pub ready : is_ready progress written machine
    pub next : frame.number ≡ progress.frames + 1
    pub later : unwrap_or progress.moment 0 ≤ frame.moment

  -- a machine is ready once a second has begun, behind any events before it behind which it was ready
  abbrev pub StaysReady : ℕ → ℕ → M → ℕ → M → Type 0
  StaysReady second old before new after =
      (progress : Progress) → is_ready progress old before → unwrap_or progress.moment 0 < second * 1000000000
      → is_ready (record { frames = progress.frames; moment = Some (second * 1000000000) }) new after

  -- a machine is ready behind a number of frames, and seconds up to a moment
  pub record IsReadyBy (frames moment written : ℕ) (machine : M) : Type 0 where
    pub progress : Progress
    pub ready : is_ready progress written machine
    pub frames_are : progress.frames ≡ frames
    pub later : unwrap_or progress.moment 0 ≤ moment
