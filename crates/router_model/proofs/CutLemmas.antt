-- The frames of a capture, cut into rounds.
use Rattle.std.proofs.Common.{◌≡◌, ℕ, ◌+◌, ◌≤◌, ◌<◌, ◌||◌, nat_le, nat_lt, Bool, true, false, cond, List, [], ◌∷◌, length, refl, ap, ◌∙◌, arith}
use Rattle.std.specs.List.{flat_map}
use Rattle.std.proofs.lemmas.Bool.Decides.{nat_tests}
use Rattle.capture_io.specs.Frame.{Frame}
use Rattle.router_model.specs.Cut.{AreShort, AreWithin, Filling, behind, cut_on, empty, in_front, is_full, octets_of, with_frame}
use Rattle.router_model.specs.Limits.{most_round_octets}
use Rattle.router_model.specs.Sharing.{CutKeeps, CutSingly, CutWithin, LastRoundCloses, RoundCloses, RoundStaysOpen}

front-keeps : (b : Bool) (frame : Frame) (rounds : List (List Frame)) → flat_map (λ frames. frames) (in_front b frame rounds) ≡ frame ∷ flat_map (λ frames. frames) rounds
front-keeps true frame rounds = refl
front-keeps false frame [] = refl
front-keeps false frame (round ∷ rounds) = refl

keeps-on : (size : ℕ) (filling : Filling) (frames : List Frame) → flat_map (λ frames. frames) (cut_on size filling frames) ≡ frames
keeps-on size filling [] = refl
keeps-on size filling (frame ∷ frames) =
    front-keeps (is_full size (with_frame filling frame)) frame (cut_on size (behind size (with_frame filling frame)) frames)
    ∙ ap (λ l. frame ∷ l) (keeps-on size (behind size (with_frame filling frame)) frames)

pub cut-keeps : CutKeeps
cut-keeps size frames = keeps-on size empty frames

pub cut-singly : CutSingly
cut-singly [] = refl
cut-singly (frame ∷ frames) = ap (λ rounds. (frame ∷ []) ∷ rounds) (cut-singly frames)

neither : (a b : Bool) → (a || b) ≡ false → (a ≡ false) × (b ≡ false)
neither true b is = absurd cc
neither false b is = (refl, is)

-- what is known of a round that is open
not-full : (size : ℕ) (filling : Filling) → is_full size filling ≡ false → (filling.frames < size) × (filling.octets ≤ most_round_octets)
not-full size filling is = by filling.frames filling.octets (neither _ _ is)
  where
    by : (f o : ℕ) → (nat_le size f ≡ false) × (nat_lt most_round_octets o ≡ false) → (f < size) × (o ≤ most_round_octets)
    by f o are = (let a = are.0 in grind (arith, nat_tests), let b = are.1 in grind (arith, nat_tests))

-- the rest of a round that is open, and the rounds after it, are within the limits
abbrev RestWithin : ℕ → ℕ → Filling → List (List Frame) → Type 0
RestWithin size most filling [] = Unit {0}
RestWithin size most filling (round ∷ rounds) =
    (filling.frames + length round ≤ size) × ((filling.octets + octets_of round ≤ most_round_octets + most) × AreWithin size (most_round_octets + most) rounds)

-- so are all, where it is empty
all-within : (size most : ℕ) (rounds : List (List Frame)) → RestWithin size most empty rounds → AreWithin size (most_round_octets + most) rounds
all-within size most [] rest = tt
all-within size most (round ∷ rounds) rest = (let few = rest.0 in omega (arith, few), (let short = rest.1.0 in omega (arith, short), rest.1.1))

front-within : (size most : ℕ) (filling : Filling) (frame : Frame) (rounds : List (List Frame)) → filling.octets ≤ most_round_octets → length frame.octets ≤ most → filling.frames < size → RestWithin size most (with_frame filling frame) rounds → RestWithin size most filling (in_front false frame rounds)
front-within size most filling frame [] octets short few rest = (omega (arith, few), (omega (arith, octets, short), tt))
front-within size most filling frame (round ∷ rounds) octets short few rest =
    (let more = rest.0 in omega (arith, more), (let more = rest.1.0 in omega (arith, more), rest.1.1))

on-within : (size most : ℕ) (filling : Filling) (frames : List Frame) → filling.frames < size → filling.octets ≤ most_round_octets → AreShort most frames → 1 ≤ size → RestWithin size most filling (cut_on size filling frames)
on-within size most filling [] few octets short some = tt
on-within size most filling (frame ∷ frames) few octets short some =
    by (is_full size (with_frame filling frame)) refl (on-within size most empty frames some (omega arith) short.1 some)
    (λ fewer less. on-within size most (with_frame filling frame) frames fewer less short.1 some)
  where
    now : Filling
    now = with_frame filling frame

    by : (b : Bool) → is_full size now ≡ b → RestWithin size most empty (cut_on size empty frames) → (now.frames < size → now.octets ≤ most_round_octets → RestWithin size most now (cut_on size now frames)) → RestWithin size most filling (in_front b frame (cut_on size (cond b empty now) frames))
    by true is anew on = (let f = few in omega (arith, f), (let s = short.0 in omega (arith, octets, s), all-within size most _ anew))
    by false is anew on =
        let room = not-full size now is in
        front-within size most filling frame _ octets short.0 few (on room.0 room.1)

pub cut-within : CutWithin
cut-within size most frames some short = all-within size most _ (on-within size most empty frames some (omega arith) short some)

-- ### a round that is filled frame by frame

pub round-closes : RoundCloses
round-closes size filling [] frame others stays full = rw full refl
round-closes size filling (one ∷ before) frame others stays full =
    rw (stays.0, round-closes size (with_frame filling one) before frame others stays.1 full) refl

pub round-stays-open : RoundStaysOpen
round-stays-open size filling [] frame stays not_full = (not_full, tt)
round-stays-open size filling (one ∷ before) frame stays not_full =
    (stays.0, round-stays-open size (with_frame filling one) before frame stays.1 not_full)

pub last-round-closes : LastRoundCloses
last-round-closes size filling frame [] stays = rw stays.0 refl
last-round-closes size filling frame (next ∷ frames) stays =
    rw (stays.0, last-round-closes size (with_frame filling frame) next frames stays.1) refl
