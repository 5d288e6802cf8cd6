use Rattle.std.proofs.Common.{ℕ, List, arith, ap, sym, ◌≡◌, ◌∙◌, ◌+◌, ◌-◌, ◌≤◌, ◌++◌, ◌∷◌, [], length, get_or, drop}
use Rattle.std.proofs.lemmas.List.{length-take-le, length-drop}
use Rattle.std.specs.List.{remove}
use borrow.Rule.Slice.PartMut.{put_mid}
use Rattle.named_list.specs.Limits.{ring_names}
use Rattle.named_list.proofs.ShiftLemmas.{taken_front, taken_back, length-part_written}
use Rattle.named_list.proofs.rings.take_out.Goals as goal

pub returns-then-place-front-clause-name : goal.returns-then-place-front-clause-name
returns-then-place-front-clause-name c =
    let ring : List ℕ = c.args.ring.now in
    let first : ℕ = c.first_of-first.result in
    let place : ℕ = c.args.place in
    let taken = taken_front ring c.shift_on.new.part first place c.args.name c.shift_on.result (first + place + 1 - first) (omega arith) (omega (arith, c.if-place-front.true, c.requires.full)) c.shift_on.ensures.names in
    taken.0 ∙ ap (λ l. get_or l place c.shift_on.result) (c.first_of-first.ensures.names ring c.requires.full)

pub returns-then-place-front-clause-names : goal.returns-then-place-front-clause-names
returns-then-place-front-clause-names c =
    let ring : List ℕ = c.args.ring.now in
    let first : ℕ = c.first_of-first.result in
    let place : ℕ = c.args.place in
    let taken = taken_front ring c.shift_on.new.part first place c.args.name c.shift_on.result (first + place + 1 - first) (omega arith) (omega (arith, c.if-place-front.true, c.requires.full)) c.shift_on.ensures.names in
    taken.1 ∙ ap (λ l. remove l place ++ c.args.name ∷ []) (c.first_of-first.ensures.names ring c.requires.full)

pub returns-clause-name : goal.returns-clause-name
returns-clause-name c =
    let ring : List ℕ = c.args.ring.now in
    let first : ℕ = c.first_of-first.result in
    let place : ℕ = c.args.place in
    let at : ℕ = place - (ring_names - first) in
    let taken = taken_back ring c.shift_back.new.part first place c.args.name c.shift_back.result at (first - at) (omega (arith, c.requires.place, c.first_of-first.ensures.within)) (omega (arith, c.first_of-first.ensures.within, c.requires.full)) (omega (arith, c.if-place-front.false, c.first_of-first.ensures.within, c.requires.full)) (omega (arith, c.requires.place, c.if-place-front.false, c.first_of-first.ensures.within)) c.shift_back.ensures.names in
    taken.0 ∙ ap (λ l. get_or l place c.shift_back.result) (c.first_of-first.ensures.names ring c.requires.full)

pub returns-clause-names : goal.returns-clause-names
returns-clause-names c =
    let ring : List ℕ = c.args.ring.now in
    let first : ℕ = c.first_of-first.result in
    let place : ℕ = c.args.place in
    let at : ℕ = place - (ring_names - first) in
    let n : ℕ = first - at in
    let part : List ℕ = c.shift_back.new.part in
    let within : first ≤ length ring = omega (arith, c.first_of-first.ensures.within, c.requires.full) in
    let sum : at + n ≡ first = omega (arith, c.requires.place, c.first_of-first.ensures.within) in
    let full : length (put_mid at n ring part) ≡ ring_names =
    length-part_written ring part at n (omega (arith, sum, within)) (c.shift_back.ensures.len ∙ length-take-le n (drop at ring) (omega (arith, length-drop at ring, sum, within))) ∙ c.requires.full in
    let taken = taken_back ring part first place c.args.name c.shift_back.result at n sum within (omega (arith, c.if-place-front.false, c.first_of-first.ensures.within, c.requires.full)) (omega (arith, c.requires.place, c.if-place-front.false, c.first_of-first.ensures.within)) c.shift_back.ensures.names in
    sym (c.first_of-first.ensures.names (put_mid at n ring part) full)
    ∙ taken.1
    ∙ ap (λ l. remove l place ++ c.args.name ∷ []) (c.first_of-first.ensures.names ring c.requires.full)
