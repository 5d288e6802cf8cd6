-- Frames as they come to the router: whole, or with their large packets split (RFC 9300, section 7.1).
use Rattle.std.specs.Prelude.{◌≡◌, ◌≤◌, ◌<◌, ℕ, ◌+◌, ◌*◌, ◌^◌, Bool, true, false, length, Option, Some, None, IfSome}
use Rattle.std.specs.List.{All}
use Rattle.capture_io.specs.Frame.{Frame}
use Rattle.capture_io.specs.Run.{before}
use Rattle.lisp_settings.specs.declared.settings.Settings.{Settings}
use Rattle.playback.specs.Input.{InputRun}
use Rattle.playback.specs.Limits.{most_arrival_octets}
use Rattle.playback.specs.declared.progress.Progress.{Progress}
use Rattle.split_v4.specs.Halves.{split_from}

-- a run of frames with their large packets split, and with numbers from n on
abbrev pub split_run : Settings → ℕ → InputRun → InputRun
split_run settings n run = record { frames = split_from settings n run.frames; fault = run.fault }

-- a run of frames as it comes to the router: with their large packets split, or as it is
abbrev pub taken_run : Bool → Settings → InputRun → InputRun
taken_run true settings run = split_run settings 1 run
taken_run false settings run = run

-- ### a run that is split as it is read

-- the frames and the fault that a splitting reader has still to give, with numbers from n on: the half that it keeps,
-- and the frames that are left, split
abbrev pub splitting_run : Settings → ℕ → Option Frame → InputRun → InputRun
splitting_run settings n None run = split_run settings n run
splitting_run settings n (Some half) run = before (record half { number = n }) (split_run settings (n + 1) run)

-- a frame under the number n
abbrev pub under : ℕ → Frame → Frame
under n frame = record frame { number = n }

-- how many halves are kept: 0 or 1
abbrev pub kept_count : Option Frame → ℕ
kept_count None = 0
kept_count (Some half) = 1

-- a part of a frame: at the frame's moment, and with no more octets than the frame
pub record IsPartOf (frame part : Frame) : Type 0 where
  pub moment : part.moment ≡ frame.moment
  pub size : length part.octets ≤ length frame.octets
  pub octets : All (λ octet. octet < 256) part.octets

-- a half of the frame that came last: at its moment, with no more octets than a frame may have
pub record IsHalf (at : Progress) (half : Frame) : Type 0 where
  pub moment : at.moment ≡ Some half.moment
  pub early : half.moment < 2 ^ 32 * 1000000000
  pub size : length half.octets ≤ most_arrival_octets
  pub octets : All (λ octet. octet < 256) half.octets

-- how far a splitting reader is: of each frame that came at most two were returned, and a half that is kept is of the
-- last
pub record IsSplit (most : ℕ) (at : Progress) (given : ℕ) (half : Option Frame) : Type 0 where
  pub came : at.frames ≤ most
  pub few : given + kept_count half ≤ 2 * at.frames
  pub kept : IfSome half (IsHalf at)
