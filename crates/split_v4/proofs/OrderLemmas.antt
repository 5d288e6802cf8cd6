-- Frames that are split, one after another.
use Rattle.std.proofs.Common.{◌≡◌, ◌≤◌, ◌+◌, ℕ, suc, List, [], ◌∷◌, ◌++◌, All, length, flat_map, refl, ap, ◌∙◌, arith}
use Rattle.std.proofs.lemmas.Grind.{flat_map-append}
use Rattle.std.proofs.lemmas.List.Concat.{flat_map-cons}
use Rattle.std.proofs.lemmas.List.Elements.{All-head, All-tail}
use Rattle.capture_io.specs.Frame.{Frame}
use Rattle.lisp_settings.specs.declared.settings.Settings.{Settings}
use Rattle.split_v4.specs.Halves.{numbered, parts_of, parts_or, split_from}
use Rattle.split_v4.specs.Limits.{split_size}
use Rattle.split_v4.proofs.LeavingLemmas.{halves-none}

numbered-append : (n : ℕ) (frames more : List Frame) → numbered n (frames ++ more) ≡ numbered n frames ++ numbered (n + length frames) more
numbered-append n [] more = ap (λ (k : ℕ). numbered k more) (omega arith)
numbered-append n (frame ∷ frames) more =
    let place : suc n + length frames ≡ n + suc (length frames) = omega arith in
    ap (λ (l : List Frame). record frame { number = n } ∷ l) (numbered-append (suc n) frames more ∙ ap (λ (k : ℕ). numbered (suc n) frames ++ numbered k more) place)

-- frames behind frames
pub split_from-append : (settings : Settings) (n : ℕ) (frames more : List Frame)
    → split_from settings n (frames ++ more) ≡ split_from settings n frames ++ split_from settings (n + length (flat_map (parts_of settings) frames)) more
split_from-append settings n frames more =
    ap (numbered n) (flat_map-append (parts_of settings) frames more) ∙ numbered-append n (flat_map (parts_of settings) frames) (flat_map (parts_of settings) more)

-- frames behind one
pub split_from-cons : (settings : Settings) (n : ℕ) (frame : Frame) (frames : List Frame)
    → split_from settings n (frame ∷ frames) ≡ numbered n (parts_of settings frame) ++ split_from settings (n + length (parts_of settings frame)) frames
split_from-cons settings n frame frames =
    ap (numbered n) (flat_map-cons (parts_of settings) frame frames) ∙ numbered-append n (parts_of settings frame) (flat_map (parts_of settings) frames)

-- no frame is long, so none has halves
parts-short : (settings : Settings) (frames : List Frame) → All (λ frame. length frame.octets ≤ split_size settings) frames → flat_map (parts_of settings) frames ≡ frames
parts-short settings [] short = refl
parts-short settings (frame ∷ frames) short =
    let first = All-head (λ frame. length frame.octets ≤ split_size settings) frame frames short in
    let others = All-tail (λ frame. length frame.octets ≤ split_size settings) frame frames short in
    flat_map-cons (parts_of settings) frame frames
    ∙ ap (λ (parts : List Frame). parts ++ flat_map (parts_of settings) frames) (ap (parts_or frame) (halves-none settings frame first))
    ∙ ap (λ (l : List Frame). frame ∷ l) (parts-short settings frames others)

pub split_from-short : (settings : Settings) (n : ℕ) (frames : List Frame) → All (λ frame. length frame.octets ≤ split_size settings) frames → split_from settings n frames ≡ numbered n frames
split_from-short settings n frames short = ap (numbered n) (parts-short settings frames short)
