use Rattle.std.proofs.Common.{◌≡◌, ◌∙◌, ◌++◌, ◌+◌, ◌-◌, List, ℕ, length, take, option_map, subst, sym, ap, arith}
use Rattle.std.specs.Option.{IfSome}
use Rattle.desk.specs.World.{after_read, left_of}
use Rattle.desk.proofs.Reading.{IfSome_both, left_on, reads_on}
use Rattle.capture_ng.specs.Blocks.{first_size}
use Rattle.capture_ng.proofs.Fronts.{long_came, short_came}
use Rattle.capture_ng.proofs.first.read_first.Goals as goal

pub returns-then-not-is_longer_head-clause-octets : goal.returns-then-not-is_longer_head-clause-octets
returns-then-not-is_longer_head-clause-octets g c =
    let first = c.read_on.new.self in
    let start = g.D.Desk.told c.args.desk.now in
    let test = sym (rw c.as_slice.ensures.value at c.is_longer_head.ensures) ∙ c.if-not-is_longer_head.true in
    let is : IfSome start (λ w. first ≡ take (first_size (left_of c.args.id.number w)) (left_of c.args.id.number w)) =
    IfSome_both start c.in_ok-read_on.ensures.octets c.in_ok-read_on.ensures.octets (λ w came same.
    short_came (left_of c.args.id.number w) first (came ∙ ap (λ (l : List ℕ). l ++ take 8 (left_of c.args.id.number w)) c.new-first.ensures) test) in
    is

pub returns-clause-octets : goal.returns-clause-octets
returns-clause-octets g c =
    let first = c.read_on.new.self in
    let id = c.args.id.number in
    let start = g.D.Desk.told c.args.desk.now in
    let len : length first - length c.new-first.result ≡ length first = omega (arith, ap (λ (l : List ℕ). length l) c.new-first.ensures) in
    let mid = subst (λ (k : ℕ). g.D.Desk.told c.read_on.new.desk ≡ option_map (after_read id k) start) len c.in_ok-read_on.ensures.told in
    IfSome_both start c.in_ok-read_on.ensures.octets (left_on id (length first) start (g.D.Desk.told c.read_on.new.desk) (λ left. c.read_on-2.new.self ≡ first ++ take 4 left) mid c.in_ok-read_on-2.ensures.octets) (λ w came more.
    long_came (left_of id w) first c.read_on-2.new.self (came ∙ ap (λ (l : List ℕ). l ++ take 8 (left_of id w)) c.new-first.ensures) (sym (rw c.as_slice.ensures.value at c.is_longer_head.ensures) ∙ c.if-not-is_longer_head.false) more)

pub returns-clause-told : goal.returns-clause-told
returns-clause-told g c =
    let first = c.read_on.new.self in
    let id = c.args.id.number in
    let start = g.D.Desk.told c.args.desk.now in
    let len : length first - length c.new-first.result ≡ length first = omega (arith, ap (λ (l : List ℕ). length l) c.new-first.ensures) in
    let mid = subst (λ (k : ℕ). g.D.Desk.told c.read_on.new.desk ≡ option_map (after_read id k) start) len c.in_ok-read_on.ensures.told in
    let n = length c.read_on-2.new.self - length first in
    let both : length first + n ≡ length c.read_on-2.new.self = omega (arith, c.in_ok-read_on-2.ensures.more) in
    subst (λ (k : ℕ). g.D.Desk.told c.read_on-2.new.desk ≡ option_map (after_read id k) start) both
    (reads_on id (length first) n start (g.D.Desk.told c.read_on.new.desk) (g.D.Desk.told c.read_on-2.new.desk) mid c.in_ok-read_on-2.ensures.told)
