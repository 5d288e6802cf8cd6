-- First bits of keys, and which keys cover which.
use Rattle.std.proofs.Common.{◌≡◌, ℕ, ◌+◌, ◌-◌, ◌/◌, ◌^◌, ◌<◌, ◌≤◌, true, sym, ap, ◌∙◌, arith, pow-add}
use Rattle.std.proofs.lemmas.Bool.{and_parts, and_from, eqb-true, leb-true, eq-eqb, le-leb}
use native.Mathlib.Nat.{div-div-eq-div-mul, div-add-mod}
use Rattle.ip_headers.specs.Addr.{width, number}
use Rattle.mapping_records.specs.declared.eid.Eid.{Eid}
use Rattle.mapping_records.specs.Eids.{covers_eid}
use Rattle.prefix_table.specs.Keys.{key_width, key_len, key_bits}
use Rattle.prefix_table.specs.Tree.{Fits, side_bits}

-- the first l bits of n, of the first m
pub top-shorter : (w n l m : ℕ) → l ≤ m → m ≤ w → n / 2 ^ (w - l) ≡ n / 2 ^ (w - m) / 2 ^ (m - l)
top-shorter w n l m shorter within =
    let whole : w - l ≡ (w - m) + (m - l) = omega arith in
    ap (λ k. n / 2 ^ k) whole ∙ ap (λ p. n / p) (pow-add 2 (w - m) (m - l)) ∙ sym (div-div-eq-div-mul n (2 ^ (w - m)) (2 ^ (m - l)))

pub key_bits-shorter : (key : Eid) (l m : ℕ) → l ≤ m → m ≤ key_width key → key_bits key l ≡ key_bits key m / 2 ^ (m - l)
key_bits-shorter key l m shorter within = top-shorter (key_width key) (number key.prefix.addr) l m shorter within

-- two keys with the same first bits have the same of fewer
pub same_shorter : (a b : Eid) (l m : ℕ) → l ≤ m → m ≤ key_width a → m ≤ key_width b → key_bits a m ≡ key_bits b m → key_bits a l ≡ key_bits b l
same_shorter a b l m shorter in_a in_b same =
    key_bits-shorter a l m shorter in_a ∙ ap (λ n. n / 2 ^ (m - l)) same ∙ sym (key_bits-shorter b l m shorter in_b)

-- one bit less is half
pub key_bits-half : (key : Eid) (l : ℕ) → l + 1 ≤ key_width key → key_bits key l ≡ key_bits key (l + 1) / 2
key_bits-half key l within =
    let one : l + 1 - l ≡ 1 = omega arith in
    key_bits-shorter key l (l + 1) (omega arith) within ∙ ap (λ k. key_bits key (l + 1) / 2 ^ k) one

-- the first key covers the second
pub record Covers (key eid : Eid) : Type 0 where
  pub same_iid : key.iid ≡ eid.iid
  pub same_width : key_width key ≡ key_width eid
  pub shorter : key_len key ≤ key_len eid
  pub front : key_bits key (key_len key) ≡ key_bits eid (key_len key)

pub covers_parts : (key eid : Eid) → covers_eid key eid ≡ true → Covers key eid
covers_parts key eid says =
    let outer = and_parts _ _ says in
    let inner = and_parts _ _ outer.1 in
    let front = and_parts _ _ inner.0 in
    record {
      same_iid = eqb-true _ _ outer.0;
      same_width = eqb-true _ _ front.0;
      shorter = leb-true _ _ front.1;
      front = eqb-true _ _ inner.1;
    }

pub covers_from : (key eid : Eid) → Covers key eid → covers_eid key eid ≡ true
covers_from key eid c =
    and_from _ _ (eq-eqb _ _ c.same_iid) (and_from _ _ (and_from _ _ (eq-eqb _ _ c.same_width) (le-leb _ _ c.shorter)) (eq-eqb _ _ c.front))

-- a key's length suits its family
pub key_len-within : (key : Eid) → key_len key ≤ key_width key
key_len-within key = leb-true _ _ (and_parts _ _ key.prefix.lawful).0

-- what covers what is covered covers
pub covers_trans : (a b c : Eid) → Covers a b → Covers b c → Covers a c
covers_trans a b c ab bc = record {
  same_iid = ab.same_iid ∙ bc.same_iid;
  same_width = ab.same_width ∙ bc.same_width;
  shorter = omega (arith, ab.shorter, bc.shorter);
  front = ab.front ∙ same_shorter b c (key_len a) (key_len b) ab.shorter (key_len-within b) (omega (arith, bc.shorter, key_len-within c)) bc.front;
}

-- a key on a side of another is covered by it
pub below_covers : (key other : Eid) (iid width side : ℕ) → side < 2 → key.iid ≡ iid → key_width key ≡ width → Fits iid width (side_bits key side) (key_len key + 1) other → Covers key other
below_covers key other iid width side bit in_iid in_width fits = record {
  same_iid = in_iid ∙ sym fits.same_iid;
  same_width = in_width ∙ sym fits.same_width;
  shorter = omega (arith, fits.longer);
  front =
      let half = key_bits-half other (key_len key) (omega (arith, fits.longer, key_len-within other)) in
      omega (arith, half, fits.front, bit, div-add-mod (key_bits other (key_len key + 1)) 2);
}

-- what fits a side of a key that fits, fits
pub side_fits : (key other : Eid) (iid width bits len side : ℕ) → side < 2 → Fits iid width bits len key → Fits iid width (side_bits key side) (key_len key + 1) other → Fits iid width bits len other
side_fits key other iid width bits len side bit outer inner =
    let below = below_covers key other iid width side bit outer.same_iid outer.same_width inner in
    record {
      same_iid = inner.same_iid;
      same_width = inner.same_width;
      longer = omega (arith, outer.longer, inner.longer);
      front =
          sym (same_shorter key other len (key_len key) outer.longer (key_len-within key) (omega (arith, inner.longer, key_len-within other)) below.front) ∙ outer.front;
    }

-- a key that covers an EID, of those that fit, has the EID's bits
pub fits_covers : (key eid : Eid) (iid width bits len : ℕ) → Fits iid width bits len key → Covers key eid → key_bits eid len ≡ bits
fits_covers key eid iid width bits len fits c =
    sym (same_shorter key eid len (key_len key) fits.longer (key_len-within key) (omega (arith, c.shorter, key_len-within eid)) c.front) ∙ fits.front
