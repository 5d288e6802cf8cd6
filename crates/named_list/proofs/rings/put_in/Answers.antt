use Rattle.std.proofs.Common.{ℕ, List, arith, ap, sym, ◌≡◌, ◌∙◌, ◌+◌, ◌-◌, ◌≤◌, ◌++◌, ◌∷◌, [], length, drop}
use Rattle.std.proofs.lemmas.List.{length-take-le, length-drop}
use Rattle.std.specs.List.{insert}
use borrow.Rule.Slice.PartMut.{put_mid}
use Rattle.named_list.specs.Limits.{ring_names}
use Rattle.named_list.proofs.ShiftLemmas.{put_front, put_back, length-part_written}
use Rattle.named_list.proofs.rings.put_in.Goals as goal

pub returns-then-place-front-clause-names : goal.returns-then-place-front-clause-names
returns-then-place-front-clause-names c =
    let ring : List ℕ = c.args.ring.now in
    let end : ℕ = c.end_of-end.result in
    let place : ℕ = c.args.place in
    let last : ℕ = end - 1 in
    ap (λ l. insert l place c.args.name) (sym (c.end_of-end.ensures.names ring c.requires.full))
    ∙ put_front ring c.shift_back.new.part end place c.args.name c.shift_back.result (end + place - last) (omega (arith, c.end_of-end.ensures.some)) last (omega (arith, c.end_of-end.ensures.some)) (omega (arith, c.if-place-front.true, c.requires.full)) c.shift_back.ensures.names

pub returns-clause-names : goal.returns-clause-names
returns-clause-names c =
    let ring : List ℕ = c.args.ring.now in
    let end : ℕ = c.end_of-end.result in
    let place : ℕ = c.args.place in
    let at : ℕ = place - (ring_names - end) in
    let n : ℕ = end - at in
    let part : List ℕ = c.shift_on.new.part in
    let within : end ≤ length ring = omega (arith, c.end_of-end.ensures.within, c.requires.full) in
    let sum : at + n ≡ end = omega (arith, c.requires.place, c.end_of-end.ensures.within) in
    let full : length (put_mid at n ring part) ≡ ring_names =
    length-part_written ring part at n (omega (arith, sum, within)) (c.shift_on.ensures.len ∙ length-take-le n (drop at ring) (omega (arith, length-drop at ring, sum, within))) ∙ c.requires.full in
    ap (λ l. insert l place c.args.name) (sym (c.end_of-end.ensures.names ring c.requires.full))
    ∙ put_back ring part end place c.args.name c.shift_on.result at n sum within (omega (arith, c.if-place-front.false, c.end_of-end.ensures.within, c.requires.full)) c.shift_on.ensures.names
    ∙ ap (λ l. l ++ c.shift_on.result ∷ []) (c.end_of-end.ensures.names (put_mid at n ring part) full)
