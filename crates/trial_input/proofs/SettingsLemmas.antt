-- The settings of a trial are lawful.
use Rattle.std.proofs.Common.{◌≡◌, ◌≤◌, ◌<◌, ◌+◌, [], ℕ, zero, suc, length, map, IsTrue, Less, refl, arith, le-leb}
use Rattle.std.proofs.lemmas.Bool.{lt-ltb}
use Rattle.std.proofs.lemmas.List.Elements.{All-cons, All-map, All-nil}
use Rattle.std.proofs.lemmas.List.FromFn.{length-map-range_with_len}
use Rattle.std.specs.List.{AllByRecursion, IsDistinct, range_with_len}
use Rattle.std.specs.List.Sorted.{IsStrictlySortedBy}
use Rattle.mapping_records.specs.Limits.{most_mappings}
use Rattle.mapping_records.specs.Orders.{eid_order}
use Rattle.mapping_records.specs.declared.eid.Eid.{Eid}
use Rattle.lisp_settings.specs.Instances.{is_within}
use Rattle.lisp_settings.specs.Lawful.{IsLawful, IsLawfulAttachment, IsLawfulDatabase, IsLawfulLocator, IsLawfulMapping}
use Rattle.lisp_settings.specs.declared.settings.Database.{Database}
use Rattle.trial_input.specs.Trial.{eid_v4, prefix_addr, trial_mapping, trial_settings}

-- the site's database
abbrev pub site : Database
site = record { eid = eid_v4 0xc0a80000 16 refl; version = 0 }

-- mapping i keeps to the ranges
mapping-lawful : (i : ℕ) → IsLawfulMapping (trial_mapping i)
unfolding IsDistinct
mapping-lawful i = record {
  ttl = refl;
  action = omega arith;
  version = omega arith;
  authoritative = refl;
  few_locators = omega arith;
  locators = All-cons IsLawfulLocator _ [] (record { m_priority = refl; m_weight = refl; local = refl; probed = refl }) (All-nil IsLawfulLocator);
  distinct = (tt, tt);
}

-- the EID of mapping i
abbrev eid_at : ℕ → Eid
eid_at i = (trial_mapping i).eid

-- later EIDs are above earlier ones
eid_at-rises : (i j : ℕ) → i < j → eid_order (eid_at i) (eid_at j) ≡ Less
eid_at-rises i j less = rw (lt-ltb (prefix_addr i) (prefix_addr j) (omega (arith, less))) refl

-- the EID of mapping i is below those of a range behind i
eid_at-below : (i a n : ℕ) → i < a → AllByRecursion (λ eid. eid_order (eid_at i) eid ≡ Less) (map (λ mapping. mapping.eid) (map trial_mapping (range_with_len a n)))
eid_at-below i a zero less = tt
eid_at-below i a (suc n) less = (eid_at-rises i a less, eid_at-below i (a + 1) n (omega (arith, less)))

-- the EIDs of a range ascend
eids-sorted : (a n : ℕ) → IsStrictlySortedBy eid_order (map (λ mapping. mapping.eid) (map trial_mapping (range_with_len a n)))
unfolding IsStrictlySortedBy
eids-sorted a zero = tt
eids-sorted a (suc n) = (eid_at-below a (a + 1) n (omega arith), eids-sorted (a + 1) n)

-- no limits are stated, so that the mappings alone are within theirs
within-none : (n : ℕ) → n ≤ most_mappings → IsTrue (is_within (length (map trial_mapping (range_with_len 0 n))) [])
within-none n few = rw (le-leb (length (map trial_mapping (range_with_len 0 n)) + 0) most_mappings (omega (arith, length-map-range_with_len trial_mapping 0 n, few))) refl

-- the settings of n mappings keep to the ranges, limits and orders
pub settings-lawful : (n : ℕ) → n ≤ most_mappings → IsLawful (trial_settings n)
unfolding IsStrictlySortedBy
settings-lawful n few = record {
  resolver = tt;
  ttl = (omega arith, omega arith);
  some_locators = omega arith;
  few_locators = omega arith;
  locators = (tt, tt);
  few_attachments = omega arith;
  attachments = All-cons IsLawfulAttachment _ [] (record { vlan = omega arith; iid = omega arith }) (All-nil _);
  vlans = (tt, tt);
  few_databases = omega arith;
  databases = All-cons IsLawfulDatabase _ [] (record { version = omega arith }) (All-nil _);
  prefixes = (tt, tt);
  few_mappings = omega (arith, length-map-range_with_len trial_mapping 0 n, few);
  mappings = All-map IsLawfulMapping trial_mapping (range_with_len 0 n) (λ k d less. mapping-lawful _);
  eids = eids-sorted 0 n;
  few_changes = omega arith;
  changes = All-nil _;
  moments = tt;
  few_limits = omega arith;
  limits = All-nil _;
  instances = tt;
  within = within-none n few;
}
