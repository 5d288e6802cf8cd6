-- Keys of EIDs, and what they say of these.
use Rattle.std.proofs.Common.{◌≡◌, ◌+◌, ◌%◌, ◌==◌, Bool, true, Option, None, Some, is_some, refl, sym, ap, ◌∙◌}
use Rattle.mapping_records.specs.declared.eid.Eid.{Eid}
use Rattle.prefix_table.specs.Keys.{key_of, key_len, key_bits}
use Rattle.prefix_table.specs.declared.key.Key.{Key}

module _ (key sought : Key) (a b : Eid) (is : key ≡ key_of a) (sought_is : sought ≡ key_of b) where
  -- keys as long as each other are those of EIDs as long as each other
  pub same_len : key.len ≡ sought.len → key_len a ≡ key_len b
  same_len same = sym (ap (λ (k : Key). k.len) is) ∙ same ∙ ap (λ (k : Key). k.len) sought_is

  pub other_len : (key.len ≡ sought.len → ⊥) → key_len a ≡ key_len b → ⊥
  other_len differ same =
      differ (ap (λ (k : Key). k.len) is ∙ same ∙ sym (ap (λ (k : Key). k.len) sought_is))

  -- the bit behind a key is that behind its EID
  pub bit_behind : (bit : Bool) → bit ≡ (key_bits b (key.len + 1) % 2 == 1) → (key_bits b (key_len a + 1) % 2 == 1) ≡ bit
  bit_behind bit says = sym (says ∙ ap (λ (k : Key). key_bits b (k.len + 1) % 2 == 1) is)

-- what is there
pub record Given {V : Type 0} (o : Option V) : Type 0 where
  pub value : V
  pub is : o ≡ Some value

pub given_of : {V : Type 0} (o : Option V) → is_some o ≡ true → Given o
given_of (Some value) there = record { value = value; is = refl }
given_of None there = absurd (cc there)
