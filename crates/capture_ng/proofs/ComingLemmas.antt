-- Octets that come piece by piece.
use Rattle.std.proofs.Common.{◌≡◌, ◌≤◌, ◌<◌, ◌+◌, ◌-◌, ◌++◌, ℕ, List, drop, take, length, min, replicate, Option, Some, None, refl, subst, sym, ap, ◌∙◌, arith, inl, inr}
use Rattle.std.specs.Option.{option_map, IfSome}
use Rattle.std.proofs.lemmas.Bool.{cases_lt, le-leb, lt-leb}
use Rattle.std.proofs.lemmas.List.{drop_at, length-drop, length-take, take-append-le, take-take, take_all, take_at}
use Rattle.std.proofs.Math.Seq.{take-add}
use borrow.Rule.Slice.PartMut.{put_mid, post_of}
use Rattle.desk.specs.World.{World, after_read, left_of, Fills}
use Rattle.desk.proofs.Reading.{IfSome_both, left_on, read_nothing, reads_on}
use Rattle.capture_io.proofs.Fronts.{number-take}
use Rattle.capture_ng.specs.Blocks.{last_number}
use Rattle.capture_io.specs.Capture.{number}
use Rattle.capture_io.specs.declared.order.Order.{Order}
use Rattle.capture_io.specs.declared.order.Order.TheVariants.{Little, Big}
use Rattle.capture_ng.specs.Coming.{HasCome, IsComing}

some_within : (id : ℕ) (told : Option World) → IfSome told (λ w. 0 ≤ length (left_of id w))
some_within id None = tt
some_within id (Some w) = omega arith

-- at first none came
pub nothing_came : (id : ℕ) (told : Option World) → IsComing id 0 told told
nothing_came id told = record { told = read_nothing id told; within = some_within id told }

-- n more came
pub more_came : (id passed n : ℕ) (start now new : Option World) → IsComing id passed start now
    → new ≡ option_map (after_read id n) now → IfSome now (λ w. (n ≤ length (left_of id w)) × (n ≡ 0 → length (left_of id w) ≡ 0))
    → IsComing id (passed + n) start new
more_came id passed n start now new so_far told count = record {
  told = reads_on id passed n start now new so_far.told told;
  within = IfSome_both start so_far.within (left_on id passed start now (λ left. (n ≤ length left) × (n ≡ 0 → length left ≡ 0)) so_far.told count) (λ w was gave.
      omega (arith, was, gave.0, length-drop passed (left_of id w)));
}

-- as many as were asked for
pub all_came : (id size passed : ℕ) (start now : Option World) → passed ≡ size → IsComing id passed start now → HasCome id size passed start now
all_came id size passed start now all so_far = record {
  told = so_far.told;
  count = IfSome_both start so_far.within so_far.within (λ w was same. omega (arith, was));
}

-- the file has ended
pub none_came : (id size passed n : ℕ) (start now new : Option World) → passed ≤ size → n ≡ 0 → IsComing id passed start now
    → new ≡ option_map (after_read id n) now → IfSome now (λ w. (n ≤ length (left_of id w)) × (n ≡ 0 → length (left_of id w) ≡ 0))
    → HasCome id size passed start new
none_came id size passed n start now new within none so_far told count =
    let more = more_came id passed n start now new so_far told count in
    let same : passed + n ≡ passed = omega arith in
    record {
      told = subst (λ (k : ℕ). new ≡ option_map (after_read id k) start) same more.told;
      count = IfSome_both start so_far.within (left_on id passed start now (λ left. (n ≤ length left) × (n ≡ 0 → length left ≡ 0)) so_far.told count) (λ w was gave.
          omega (arith, was, gave.1 none, length-drop passed (left_of id w)));
    }

-- a number is read of what is left as of the rest
number-drop : (order : Order) (s : ℕ) (left : List ℕ) → number order 4 (drop s left) 0 ≡ number order 4 left s
number-drop Little s left = refl
number-drop Big s left = refl

-- what was passed, and what came behind it, are all
last_came : (order : Order) (size s n : ℕ) (left buf : List ℕ) → 4 ≤ size → length buf ≡ 4 → s ≡ size - 4 → n ≡ 4 → s ≡ min (size - 4) (length left) → Fills (drop s left) n buf
    → Some (number order 4 buf 0) ≡ last_number order size left
last_came order size s n left buf some len all whole passed fills =
    let long : size ≤ length left = omega (arith, fills.count, length-drop s left) in
    let front : buf ≡ take 4 (drop s left) = sym (take_all n buf (omega arith)) ∙ fills.octets ∙ ap (λ (k : ℕ). take k (drop s left)) whole in
    let is : number order 4 buf 0 ≡ number order 4 left (size - 4) =
    ap (λ (l : List ℕ). number order 4 l 0) front ∙ number-take order 4 0 4 (drop s left) (omega arith) ∙ number-drop order s left ∙ ap (number order 4 left) all in
    rw (le-leb size (length left) long, is) refl

-- octets are missing
none_last : (order : Order) (size : ℕ) (left : List ℕ) → length left < size → None ≡ last_number order size left
none_last order size left cut = rw (lt-leb size (length left) cut) refl

last_cut : (order : Order) (size s n : ℕ) (left buf : List ℕ) → 4 ≤ size → length buf ≡ 4 → s + n < size → s ≡ min (size - 4) (length left) → Fills (drop s left) n buf
    → None ≡ last_number order size left
last_cut order size s n left buf some len cut passed fills = none_last order size left (omega (arith, cut, passed, fills.count, length-drop s left))

-- the same over a desk that may tell its octets
pub last_read : (id : ℕ) (order : Order) (size s n x : ℕ) (start mid : Option World) (buf : List ℕ) → 4 ≤ size → length buf ≡ 4 → s ≡ size - 4 → n ≡ 4
    → x ≡ number order 4 buf 0
    → HasCome id (size - 4) s start mid → IfSome mid (λ w. Fills (left_of id w) n buf)
    → IfSome start (λ w. Some x ≡ last_number order size (left_of id w))
last_read id order size s n x start mid buf some len all whole is come fills =
    IfSome_both start come.count (left_on id s start mid (λ left. Fills left n buf) come.told fills) (λ w passed filled.
    ap Some is ∙ last_came order size s n (left_of id w) buf some len all whole passed filled)

pub last_missing : (id : ℕ) (order : Order) (size s n : ℕ) (start mid : Option World) (buf : List ℕ) → 4 ≤ size → length buf ≡ 4 → s + n < size
    → HasCome id (size - 4) s start mid → IfSome mid (λ w. Fills (left_of id w) n buf)
    → IfSome start (λ w. None ≡ last_number order size (left_of id w))
last_missing id order size s n start mid buf some len cut come fills =
    IfSome_both start come.count (left_on id s start mid (λ left. Fills left n buf) come.told fills) (λ w passed filled.
    last_cut order size s n (left_of id w) buf some len cut passed filled)

pub last_told : (id size s n : ℕ) (start mid new : Option World) → 4 ≤ size → s ≡ size - 4 → n ≡ 4 → mid ≡ option_map (after_read id s) start → new ≡ option_map (after_read id n) mid
    → new ≡ option_map (after_read id size) start
last_told id size s n start mid new some all whole first second =
    let sum : s + n ≡ size = omega arith in
    subst (λ (k : ℕ). new ≡ option_map (after_read id k) start) sum (reads_on id s n start mid new first second)

-- a part of a buffer that was filled
part_comes : (left buf part post : List ℕ) (from size n : ℕ) → from ≤ length buf → length part ≡ size → n ≡ min (length part) (length left) → take n part ≡ take n left
    → take (from + n) (take from buf ++ (part ++ post)) ≡ take from buf ++ take size left
part_comes left buf part post from size n within all count came =
    let len : length (take from buf) ≡ from = omega (arith, length-take from buf) in
    let most : n ≤ length part = omega (arith, count) in
    rw (take-add from n (take from buf ++ (part ++ post)), take_at (take from buf) (part ++ post) from len, drop_at (take from buf) (part ++ post) from len, take-append-le n part post most)
    (ap (λ (l : List ℕ). take from buf ++ l) (came ∙ cut left size n (subst (λ (k : ℕ). n ≡ min k (length left)) all count)))
  where
    cut : (left : List ℕ) (size n : ℕ) → n ≡ min size (length left) → take n left ≡ take size left
    cut left size n count =
        elim (cases_lt (length left) size) [
          | inl short ↦ (take_all n left (omega (arith, short, count)) ∙ sym (take_all size left (omega (arith, short))))
          | inr long ↦ (let same : n ≡ size = omega (arith, long, count) in ap (λ (k : ℕ). take k left) same)
        ]

pub part_filled : (id from size n : ℕ) (told : Option World) (buf part : List ℕ) → from ≤ length buf → length part ≡ size
    → IfSome told (λ w. Fills (left_of id w) n part)
    → IfSome told (λ w. take (from + n) (put_mid from size buf part) ≡ take from buf ++ take size (left_of id w))
part_filled id from size n told buf part within all came =
    IfSome_both told came came (λ w fills _. part_comes (left_of id w) buf part (post_of from size buf) from size n within all fills.count fills.octets)

-- octets that are more than others begin with these
pub front_first : (old new : List ℕ) (count n : ℕ) → count ≤ length old → take count new ≡ take count old → take (length (take count old)) (take (count + n) new) ≡ take count old
front_first old new count n within same =
    let len : length (take count old) ≡ count = omega (arith, length-take count old) in
    ap (λ (k : ℕ). take k (take (count + n) new)) len ∙ take-take count (count + n) new (omega arith) ∙ same

-- room was added behind octets
pub grown : (first slice old made : List ℕ) (whole fresh : ℕ) → length first ≤ whole → made ≡ first → old ≡ take whole made ++ replicate fresh 0 → slice ≡ old → take (length first) slice ≡ first
grown first slice old made whole fresh room is laid same =
    ap (λ (l : List ℕ). take (length first) l) (same ∙ laid ∙ ap (λ (l : List ℕ). take whole l ++ replicate fresh 0) is ∙ ap (λ (l : List ℕ). l ++ replicate fresh 0) (take_all whole first room))
    ∙ take_at first (replicate fresh 0) (length first) refl

-- octets that were lent whole came back
pub lent : (n size : ℕ) (part rest : List ℕ) → length part ≡ size → take n (take size (part ++ rest)) ≡ take n part
lent n size part rest all = ap (λ (l : List ℕ). take n l) (take_at part rest size all)

-- the octets with those of the file behind them
pub behind_came : (id from n size wide : ℕ) (told : Option World) (first old new items : List ℕ) → from ≡ length first → take (length first) old ≡ first → wide ≡ size
    → IfSome told (λ w. take (from + n) new ≡ take from old ++ take wide (left_of id w)) → items ≡ take (from + n) new
    → IfSome told (λ w. items ≡ first ++ take size (left_of id w))
behind_came id from n size wide told first old new items place was all came cut =
    IfSome_both told came came (λ w is _. cut ∙ is ∙ ap (λ (k : ℕ). take k old ++ take wide (left_of id w)) place
    ∙ ap (λ (l : List ℕ). l ++ take wide (left_of id w)) was ∙ ap (λ (k : ℕ). first ++ take k (left_of id w)) all)
