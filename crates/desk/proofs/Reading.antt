-- One read after another, until a buffer is full.
use Rattle.std.proofs.Common.{◌≡◌, ℕ, ◌+◌, ◌-◌, ◌++◌, List, [], take, drop, length, ◌≤◌, ◌<◌, Option, Some, None, refl, subst, sym, ap, ◌∙◌, arith}
use Rattle.std.specs.Option.{option_map, IfSome, unwrap_or}
use Rattle.std.proofs.lemmas.List.{drop-drop, take_at, drop_at, take-append-le, length-append, length-take, length-drop}
use Rattle.std.proofs.Math.Seq.{take-add, drop-nil}
use borrow.Rule.Slice.PartMut.{put_mid, post_of}
use Rattle.desk.specs.World.{World, found_at, left_of, after_read, Gives, Fills}
use Rattle.desk.proofs.Entries.{changed_at-changed_at, changed_at-same, found_at-changed_at}

left_or : (n : ℕ) (left : Option (List ℕ)) → unwrap_or (option_map (drop n) left) [] ≡ drop n (unwrap_or left [])
left_or n None = sym (drop-nil n)
left_or n (Some left) = refl

-- what is left after a read
pub left-after_read : (id n : ℕ) (w : World) → left_of id (after_read id n w) ≡ drop n (left_of id w)
left-after_read id n w = ap (λ (o : Option (List ℕ)). unwrap_or o []) (found_at-changed_at id (drop n) w.readers) ∙ left_or n (found_at id w.readers)

pub read_nothing : (id : ℕ) (told : Option World) → told ≡ option_map (after_read id 0) told
read_nothing id None = refl
read_nothing id (Some w) = ap (λ (readers : List (ℕ × List ℕ)). Some (record w { readers = readers })) (sym (changed_at-same id (drop 0) w.readers (λ left. refl)))

twice : (id a b : ℕ) (told : Option World) → option_map (after_read id b) (option_map (after_read id a) told) ≡ option_map (after_read id (a + b)) told
twice id a b None = refl
twice id a b (Some w) = ap (λ (readers : List (ℕ × List ℕ)). Some (record w { readers = readers })) (changed_at-changed_at id (drop a) (drop b) (drop (a + b)) w.readers (λ left. drop-drop b a left))

-- one read after another is one read
pub reads_on : (id a b : ℕ) (old mid new : Option World) → mid ≡ option_map (after_read id a) old → new ≡ option_map (after_read id b) mid → new ≡ option_map (after_read id (a + b)) old
reads_on id a b old mid new first second = second ∙ ap (option_map (after_read id b)) first ∙ twice id a b old

-- what holds of what is left after a read holds of the rest of what was left before it
pub left_on : (id n : ℕ) (old mid : Option World) (P : List ℕ → Type 0) → mid ≡ option_map (after_read id n) old → IfSome mid (λ w. P (left_of id w)) → IfSome old (λ w. P (drop n (left_of id w)))
left_on id n None mid P e h = tt
left_on id n (Some w) mid P e h = subst P (left-after_read id n w) (subst (λ (t : Option World). IfSome t (λ v. P (left_of id v))) e h)

pub IfSome_both : {X : Type 0} (o : Option X) {P Q R : X → Type 0} → IfSome o P → IfSome o Q → ((x : X) → P x → Q x → R x) → IfSome o R
IfSome_both None p q f = tt
IfSome_both (Some x) p q f = f x p q

-- where a loop that fills a buffer stands
pub record SoFar (id filled : ℕ) (old now : Option World) (buf : List ℕ) : Type 0 where
  pub within : filled ≤ length buf
  pub told : now ≡ option_map (after_read id filled) old
  pub octets : IfSome old (λ w. (filled ≤ length (left_of id w)) × (take filled buf ≡ take filled (left_of id w)))

pub started : (id : ℕ) (told : Option World) (buf : List ℕ) → SoFar id 0 told told buf
started id None buf = record { within = omega arith; told = read_nothing id None; octets = tt }
started id (Some w) buf = record { within = omega arith; told = read_nothing id (Some w); octets = (omega arith, refl) }

-- n more octets in a buffer that has the first ones
more : (left buf part post : List ℕ) (filled n : ℕ) → filled ≤ length buf → n ≤ length part → take filled buf ≡ take filled left → take n part ≡ take n (drop filled left)
    → take (filled + n) (take filled buf ++ (part ++ post)) ≡ take (filled + n) left
more left buf part post filled n within most front back =
    let len : length (take filled buf) ≡ filled = omega (arith, length-take filled buf) in
    rw (take-add filled n (take filled buf ++ (part ++ post)), take_at (take filled buf) (part ++ post) filled len, drop_at (take filled buf) (part ++ post) filled len, take-append-le n part post most, take-add filled n left) cc

pub goes_on : (id filled n : ℕ) (old mid new : Option World) (buf part : List ℕ) → SoFar id filled old mid buf
    → n ≤ length part → filled + length part ≡ length buf → IfSome mid (λ w. Gives (left_of id w) n part) → new ≡ option_map (after_read id n) mid
    → SoFar id (filled + n) old new (put_mid filled (length buf - filled) buf part)
goes_on id filled n old mid new buf part so_far most fits gives moved =
    let post = post_of filled (length buf - filled) buf in record {
      within = omega (arith, so_far.within, length-append (take filled buf) (part ++ post), length-append part post, length-take filled buf);
      told = reads_on id filled n old mid new so_far.told moved;
      octets = IfSome_both old so_far.octets (left_on id filled old mid (λ left. Gives left n part) so_far.told gives) (λ w was gave.
          (omega (arith, was.0, gave.within, length-drop filled (left_of id w)), more (left_of id w) buf part post filled n so_far.within most was.1 gave.octets));
    }

at_end : (left : List ℕ) (filled n : ℕ) → filled ≤ length left → n ≡ 0 → (0 < length (drop filled left) → 0 < n) → length left ≡ filled
at_end left filled n within none some = grind (arith, length-drop filled left, some)

-- the file has ended
pub ended : (id filled n : ℕ) (old mid : Option World) (buf part : List ℕ) → SoFar id filled old mid buf → n ≡ 0 → IfSome mid (λ w. Gives (left_of id w) n part)
    → IfSome old (λ w. Fills (left_of id w) filled (put_mid filled (length buf - filled) buf part))
ended id filled n old mid buf part so_far none gives =
    let within = so_far.within in
    let rest = part ++ post_of filled (length buf - filled) buf in
    let len : length (take filled buf) ≡ filled = omega (arith, length-take filled buf) in
    IfSome_both old so_far.octets (left_on id filled old mid (λ left. Gives left n part) so_far.told gives) (λ w was gave.
    let all : length (left_of id w) ≡ filled = at_end (left_of id w) filled n was.0 none gave.some in
    record { count = omega (arith, all, len, length-append (take filled buf) rest); octets = take_at (take filled buf) rest filled len ∙ was.1 })

pub nothing_more : (id filled n : ℕ) (old mid new : Option World) (buf : List ℕ) → SoFar id filled old mid buf → n ≡ 0 → new ≡ option_map (after_read id n) mid → new ≡ option_map (after_read id filled) old
nothing_more id filled n old mid new buf so_far none moved =
    let all : filled + n ≡ filled = omega arith in
    subst (λ (k : ℕ). new ≡ option_map (after_read id k) old) all (reads_on id filled n old mid new so_far.told moved)
