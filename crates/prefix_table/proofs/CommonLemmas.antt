-- The longest key that covers two others.
use Rattle.std.proofs.Common.{◌≡◌, ◌≢◌, ℕ, ◌+◌, ◌-◌, ◌/◌, ◌%◌, ◌^◌, ◌<◌, ◌≤◌, ◌==◌, Bool, true, false, inl, inr, subst, refl, sym, ap, ◌∙◌, arith, pow_pos}
use Rattle.std.proofs.lemmas.Bool.{eqb-true, eqb-false, false≢true, cases_Bool}
use native.Mathlib.Nat.{mul-div_cancel, mod-lt, div-add-mod}
use Rattle.ip_headers.specs.Addr.{width, cleared, first_bits}
use Rattle.ip_headers.specs.declared.addr.Addr.{Addr}
use Rattle.ip_headers.specs.declared.addr.Addr.TheVariants.{V4, V6}
use Rattle.mapping_records.specs.declared.eid.Eid.{Eid}
use Rattle.mapping_records.specs.Eids.{covers_eid}
use Rattle.prefix_table.specs.Keys.{key_width, key_len, key_bits}
use mathlib.Core.Bool.{beq}
use Rattle.prefix_table.specs.Common.{IsCommon}
use Rattle.prefix_table.proofs.Bits.{covers_from, key_len-within, key_bits-half}

pub width-cleared : (addr : Addr) (len : ℕ) → width (cleared addr len) ≡ width addr
width-cleared (V4 n) len = refl
width-cleared (V6 n) len = refl

pub first_bits-cleared : (addr : Addr) (len : ℕ) → first_bits (cleared addr len) len ≡ first_bits addr len
first_bits-cleared (V4 n) len = mul-div_cancel (n / 2 ^ (32 - len)) {n = 2 ^ (32 - len)} (pow_pos (32 - len))
first_bits-cleared (V6 n) len = mul-div_cancel (n / 2 ^ (128 - len)) {n = 2 ^ (128 - len)} (pow_pos (128 - len))

-- so many first bits of both are the same, and both have more
pub record Goes (key eid : Eid) (least len : ℕ) : Type 0 where
  pub longer : least ≤ len
  pub in_key : len < key_len key
  pub in_eid : len < key_len eid
  pub both : key_bits key len ≡ key_bits eid len

module _ (key eid : Eid) (same_iid : key.iid ≡ eid.iid) (same_width : key_width key ≡ key_width eid) (not_below : covers_eid key eid ≡ false) (not_above : covers_eid eid key ≡ false) (least : ℕ) where
  pub not_end : (len : ℕ) → least ≤ len → len ≤ key_len key → len ≤ key_len eid → key_bits key len ≡ key_bits eid len → Goes key eid least len
  not_end len longer in_key in_eid both =
      let key_more : len ≢ key_len key = λ same. false≢true (sym not_below ∙ covers_from key eid (record {
        same_iid = same_iid;
        same_width = same_width;
        shorter = omega (arith, same, in_eid);
        front = ap (key_bits key) (sym same) ∙ both ∙ ap (key_bits eid) same;
      })) in
      let eid_more : len ≢ key_len eid = λ same. false≢true (sym not_above ∙ covers_from eid key (record {
        same_iid = sym same_iid;
        same_width = sym same_width;
        shorter = omega (arith, same, in_key);
        front = ap (key_bits eid) (sym same) ∙ sym both ∙ ap (key_bits key) same;
      })) in
      record { longer = longer; in_key = omega (arith, in_key, key_more); in_eid = omega (arith, in_eid, eid_more); both = both }

  one_more : (len : ℕ) → Goes key eid least len → key_bits key (len + 1) % 2 ≡ key_bits eid (len + 1) % 2 → key_bits key (len + 1) ≡ key_bits eid (len + 1)
  one_more len goes same =
      let half_key = key_bits-half key len (omega (arith, goes.in_key, key_len-within key)) in
      let half_eid = key_bits-half eid len (omega (arith, goes.in_eid, key_len-within eid)) in
      omega (arith, half_key, half_eid, goes.both, same, div-add-mod (key_bits key (len + 1)) 2, div-add-mod (key_bits eid (len + 1)) 2)

  parity : (m n : ℕ) → (m % 2 == 1) ≡ (n % 2 == 1) → m % 2 ≡ n % 2
  parity m n same =
      let in_m = mod-lt m {m = 2} (omega arith) in
      let in_n = mod-lt n {m = 2} (omega arith) in
      elim (cases_Bool (m % 2 == 1)) [
        | inl odd ↦ eqb-true _ _ odd ∙ sym (eqb-true _ _ (sym same ∙ odd))
        | inr even ↦
            let not_m : m % 2 ≢ 1 = eqb-false _ _ even in
            let not_n : n % 2 ≢ 1 = eqb-false _ _ (sym same ∙ even) in
            omega (arith, not_m, not_n, in_m, in_n)
      ]

  pub step : (len : ℕ) → Goes key eid least len → (key_bits key (len + 1) % 2 == 1) ≡ (key_bits eid (len + 1) % 2 == 1) → Goes key eid least (len + 1)
  step len goes same =
      not_end (len + 1) (omega (arith, goes.longer)) (omega (arith, goes.in_key)) (omega (arith, goes.in_eid)) (one_more len goes (parity (key_bits key (len + 1)) (key_bits eid (len + 1)) same))

  pub differs : (a b : Bool) (len : ℕ) → a ≡ (key_bits key (len + 1) % 2 == 1) → b ≡ (key_bits eid (len + 1) % 2 == 1) → (a ≡ b → ⊥) → key_bits key (len + 1) ≢ key_bits eid (len + 1)
  differs a b len a_is b_is other same = other (a_is ∙ ap (λ n. n % 2 == 1) same ∙ sym b_is)

pub beq-same : (a b : Bool) → beq a b ≡ true → a ≡ b
beq-same true true is = refl
beq-same false false is = refl
beq-same true false is = absurd (cc (is))
beq-same false true is = absurd (cc (is))

pub beq-other : (a b : Bool) → beq a b ≡ false → a ≡ b → ⊥
beq-other true true is same = absurd (cc (is))
beq-other false false is same = absurd (cc (is))
beq-other true false is same = absurd (cc (same))
beq-other false true is same = absurd (cc (same))

pub finish : (key eid over : Eid) (least len : ℕ) → Goes key eid least len → key_bits key (len + 1) ≢ key_bits eid (len + 1) → over.iid ≡ eid.iid → over.prefix.addr ≡ cleared eid.prefix.addr len → over.prefix.len ≡ len → IsCommon over key eid least
finish key eid over least len goes other iid addr len_is =
    let here : Goes key eid least (key_len over) = subst (λ (l : ℕ). Goes key eid least l) (sym len_is) goes in
    record {
      same_iid = iid;
      same_width = ap width addr ∙ width-cleared eid.prefix.addr len;
      longer = here.longer;
      in_key = here.in_key;
      in_eid = here.in_eid;
      front =
          ap (key_bits over) len_is ∙ ap (λ a. first_bits a len) addr ∙ first_bits-cleared eid.prefix.addr len ∙ ap (key_bits eid) (sym len_is);
      both = here.both;
      differ = subst (λ (l : ℕ). key_bits key (l + 1) ≢ key_bits eid (l + 1)) (sym len_is) other;
    }
