-- What is copied of octets are octets.
use Rattle.std.proofs.Common.{◌<◌, ℕ, zero, suc, List, [], ◌∷◌, All, length, replicate, Option, Some, None, option_map, unwrap_or, inl, inr, arith}
use Rattle.std.proofs.lemmas.Bool.{cases_Bool}
use Rattle.std.proofs.lemmas.List.Elements.{All-append, All-drop, All-nil, All-replicate, All-take}
use Rattle.split_v4.specs.Options.{begins_well, behind_option, copied_in, copied_of, ends_options, first_option, is_copied, options_within, padded, padding, size_in}
use Rattle.split_v4.proofs.OptionLemmas.{piece}

-- each number is below 256
abbrev pub AreOctets : List ℕ → Type 0
AreOctets octets = All (λ octet. octet < 256) octets

none-octets : AreOctets []
none-octets = All-nil (λ octet. octet < 256)

piece-octets : (option : List ℕ) → AreOctets option → AreOctets (piece option)
piece-octets option are =
    elim (cases_Bool (is_copied option)) [
      | inl copied ↦ rw copied are
      | inr other ↦ rw other none-octets
    ]

octets-more : (first : List ℕ) (others : Option (List (List ℕ))) → AreOctets first → AreOctets (copied_of (unwrap_or others []))
    → AreOctets (copied_of (unwrap_or (option_map (λ (options : List (List ℕ)). first ∷ options) others) []))
octets-more first None are more = none-octets
octets-more first (Some others) are more = All-append (λ octet. octet < 256) (piece first) (copied_of others) (piece-octets first are) more

octets-within : (n : ℕ) (octets : List ℕ) → AreOctets octets → AreOctets (copied_of (unwrap_or (options_within n octets) []))
unfolding options_within
octets-within zero octets are = none-octets
octets-within (suc n) octets are =
    elim (cases_Bool (ends_options octets)) [
      | inl ends ↦ rw ends none-octets
      | inr some ↦ elim (cases_Bool (begins_well octets)) [
        | inl well ↦ rw (some, well)
            (octets-more (first_option octets) (options_within n (behind_option octets)) (All-take (λ octet. octet < 256) (size_in octets) octets are)
            (octets-within n (behind_option octets) (All-drop (λ octet. octet < 256) (size_in octets) octets are)))
        | inr bad ↦ rw (some, bad) none-octets
      ]
    ]

pub copied-octets : (octets : List ℕ) → AreOctets octets → AreOctets (padded (copied_in octets))
copied-octets octets are =
    All-append (λ octet. octet < 256) (copied_in octets) (replicate (padding (length (copied_in octets))) 0) (octets-within (length octets) octets are)
    (All-replicate (λ octet. octet < 256) (padding (length (copied_in octets))) 0 (omega arith))
