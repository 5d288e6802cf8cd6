-- The frames of a capture cut into rounds.
use Rattle.std.specs.Prelude.{◌≡◌, ℕ, suc, ◌+◌, ◌≤◌, ◌||◌, nat_le, nat_lt, Bool, true, false, List, [], ◌∷◌, fold, length, if◌then◌else◌}
use Rattle.capture_io.specs.Frame.{Frame}
use Rattle.router_model.specs.Limits.{most_round_octets}

-- the number of frames in an open round so far, and of their octets
pub record Filling : Type 0 where
  pub frames : ℕ
  pub octets : ℕ

-- an open round without a frame
abbrev pub empty : Filling
empty = record { frames = 0; octets = 0 }

-- an open round with one frame more
abbrev pub with_frame : Filling → Frame → Filling
with_frame filling frame =
    record { frames = suc filling.frames; octets = filling.octets + length frame.octets }

-- an open round with further frames
abbrev pub with_frames : Filling → List Frame → Filling
with_frames filling frames = fold with_frame filling frames

-- whether a round is full: by its size in frames, or by the frame that brings its octets past 16 MiB
abbrev pub is_full : ℕ → Filling → Bool
is_full size filling = nat_le size filling.frames || nat_lt most_round_octets filling.octets

-- the open round behind a frame: an empty one where the frame made it full
abbrev pub behind : ℕ → Filling → Filling
behind size filling = if is_full size filling then empty else filling

-- rounds with a frame in front: it closes a round of its own, or begins the first of them
abbrev pub in_front : Bool → Frame → List (List Frame) → List (List Frame)
in_front true frame rounds = (frame ∷ []) ∷ rounds
in_front false frame [] = (frame ∷ []) ∷ []
in_front false frame (round ∷ rounds) = (frame ∷ round) ∷ rounds

-- frames cut into the rest of an open round, and the rounds after it
abbrev pub cut_on : ℕ → Filling → List Frame → List (List Frame)
cut_on size filling [] = []
cut_on size filling (frame ∷ frames) =
    in_front (is_full size (with_frame filling frame)) frame (cut_on size (behind size (with_frame filling frame)) frames)

-- frames cut into rounds of a size
abbrev pub cut : ℕ → List Frame → List (List Frame)
cut size frames = cut_on size empty frames

-- none of the frames makes an open round full
abbrev pub StaysOpen : ℕ → Filling → List Frame → Type 0
StaysOpen size filling [] = Unit {0}
StaysOpen size filling (frame ∷ frames) =
    (is_full size (with_frame filling frame) ≡ false) × StaysOpen size (with_frame filling frame) frames

-- the number of octets of frames
abbrev pub octets_of : List Frame → ℕ
octets_of [] = 0
octets_of (frame ∷ frames) = length frame.octets + octets_of frames

-- each of the frames has at most so many octets
abbrev pub AreShort : ℕ → List Frame → Type 0
AreShort most [] = Unit {0}
AreShort most (frame ∷ frames) = (length frame.octets ≤ most) × AreShort most frames

-- each of the rounds has at most so many frames and so many octets
abbrev pub AreWithin : ℕ → ℕ → List (List Frame) → Type 0
AreWithin frames octets [] = Unit {0}
AreWithin frames octets (round ∷ rounds) =
    (length round ≤ frames) × ((octets_of round ≤ octets) × AreWithin frames octets rounds)
