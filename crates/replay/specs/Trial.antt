-- The line of `trial`: the plain router, over an input that is made from a number.
use Rattle.std.specs.Prelude.{ℕ, List, [], ◌∷◌, ◌++◌, codes, flat_map, length}
use Rattle.octets.specs.Numbers.{big_octets}
use Rattle.capture_io.specs.Output.{out_header}
use Rattle.locator_choice.specs.Hash.{octets_hash}
use Rattle.capture_events.specs.Events.{Outcome, events, played, records_of}
use Rattle.playback.specs.Written.{frames_of}
use Rattle.router_log.specs.Numbers.{fixed_hex, named}
use Rattle.router_model.specs.Journal.{Journal}
use Rattle.router_model.specs.Plain.{Router, plain, started}
use Rattle.trial_input.specs.Trial.{trial_packets, trial_settings}

-- the input capture of a trial, as a file
abbrev pub trial_file : ℕ → List ℕ
trial_file n = out_header ++ records_of (trial_packets n)

-- the hash of a capture's octets, in hexadecimal digits
unfoldable pub hash_text : List ℕ → List ℕ
hash_text file = flat_map (fixed_hex 2) (big_octets 4 (octets_hash file))

-- the line of a trial: its number, the frames, the packets written, the journal's length, and the hash of the output
unfoldable pub trial_line : ℕ → ℕ → ℕ → ℕ → List ℕ → List ℕ
trial_line n frames written entries file =
    named (codes "trial ") n
    ++ (named (codes " frames=") frames
    ++ (named (codes " written=") written
    ++ (named (codes " entries=") entries ++ (codes " hash=" ++ (hash_text file ++ 10 ∷ [])))))

-- the line of a trial, by its number of frames and the outcome of its replay
abbrev pub line_of : ℕ → ℕ → Outcome (Router Journal) → List ℕ
line_of n frames outcome =
    trial_line n frames (length outcome.packets) (length outcome.after.memory)
    (out_header ++ records_of outcome.packets)

-- the line of the trial of n, whose input the plain router replays
unfoldable pub trial_text : ℕ → List ℕ
trial_text n =
    let frames = frames_of (trial_packets n) in
    line_of n (length frames) (played plain (started (trial_settings n)) (events frames))
