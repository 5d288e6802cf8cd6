-- The sizes of a packet that is cut, and of its parts.
use Rattle.std.proofs.Common.{◌≡◌, ◌≤◌, ◌<◌, ◌+◌, ◌-◌, ◌*◌, ◌%◌, ◌&&◌, not, leb, ltb, ltb-true, ℕ, zero, suc, Bool, true, false, List, [], ◌∷◌, length, take, drop, replicate, slice_index, Option, Some, None, option_map, unwrap_or, inl, inr, refl, ap, ◌∙◌, arith, length-append, length-drop}
use Rattle.std.proofs.lemmas.Bool.{cases_Bool, leb-true}
use Rattle.std.proofs.lemmas.List.{length-replicate, length-take}
use Rattle.octets.specs.Rules.{first_failing}
use Rattle.ip_headers.specs.Ip.{header_len, ip_rules, is_v4, v4_at}
use Rattle.ip_headers.proofs.CutPacket.{both_hold, v4_facts}
use Rattle.split_v4.specs.declared.cutting.Cut.{Cut}
use Rattle.split_v4.specs.Halves.{copied_options, cut_in, first_eighths, first_size, may_split_above, option_octets}
use Rattle.split_v4.specs.Limits.{least_split_size, most_offset}
use Rattle.split_v4.specs.Options.{are_options, begins_well, behind_option, copied_in, copied_of, ends_options, first_option, is_copied, options_within, padded, padding, size_in}
use Rattle.split_v4.proofs.OptionLemmas.{piece, well_facts}

-- what the tests say of a packet that is cut
pub record CutFacts (packet : List ℕ) : Type 0 where
  pub long : least_split_size < length packet
  pub four : is_v4 packet ≡ true
  pub splits : (v4_at packet).dont_fragment ≡ false
  pub near : (v4_at packet).offset + first_eighths packet ≤ most_offset
  pub well : are_options (option_octets packet) ≡ true

not-true : (b : Bool) → not b ≡ true → b ≡ false
not-true true is = cc
not-true false is = refl

pub cut_facts : (most : ℕ) (packet : List ℕ) → least_split_size ≤ most → may_split_above most packet ≡ true → CutFacts packet
cut_facts most packet large may =
    let well = are_options (option_octets packet) in
    let near = leb ((v4_at packet).offset + first_eighths packet) most_offset in
    let splits = not (v4_at packet).dont_fragment in
    let a = both_hold (ltb most (length packet)) (is_v4 packet && (splits && (near && well))) may in
    let b = both_hold (is_v4 packet) (splits && (near && well)) a.1 in
    let c = both_hold splits (near && well) b.1 in
    let d = both_hold near well c.1 in
    let above = ltb-true _ _ a.0 in
    record { long = omega (arith, above); four = b.0; splits = not-true _ c.0; near = leb-true _ _ d.0; well = d.1 }

-- an option adds no more than it has
length-piece : (option : List ℕ) → length (piece option) ≤ length option
length-piece option =
    elim (cases_Bool (is_copied option)) [
      | inl copied ↦ rw copied (omega arith)
      | inr other ↦ rw other (omega arith)
    ]

few-more : (first behind : List ℕ) (others : Option (List (List ℕ))) (size : ℕ) → length first + length behind ≤ size → length (copied_of (unwrap_or others [])) ≤ length behind
    → length (copied_of (unwrap_or (option_map (λ (options : List (List ℕ)). first ∷ options) others) [])) ≤ size
few-more first behind None size whole few = omega arith
few-more first behind (Some others) size whole few = omega (arith, length-append (piece first) (copied_of others), length-piece first)

-- no more octets are copied than there are
few-within : (n : ℕ) (octets : List ℕ) → length (copied_of (unwrap_or (options_within n octets) [])) ≤ length octets
unfolding options_within
few-within zero octets = omega arith
few-within (suc n) octets =
    elim (cases_Bool (ends_options octets)) [
      | inl ends ↦ rw ends (omega arith)
      | inr some ↦ elim (cases_Bool (begins_well octets)) [
        | inl well ↦
            let facts = well_facts octets well in
            let whole : length (first_option octets) + length (behind_option octets) ≤ length octets = omega (arith, facts.1, length-take (size_in octets) octets, length-drop (size_in octets) octets) in
            rw (some, well) (few-more (first_option octets) (behind_option octets) (options_within n (behind_option octets)) (length octets) whole (few-within n (behind_option octets)))
        | inr bad ↦ rw (some, bad) (omega arith)
      ]
    ]

pub length-padded : (octets : List ℕ) → length (padded octets) ≡ length octets + padding (length octets)
length-padded octets = omega (arith, length-append octets (replicate (padding (length octets)) 0), length-replicate {A = ℕ} (padding (length octets)) 0)

-- the sizes of a packet that is cut
pub record CutSizes (packet : List ℕ) : Type 0 where
  pub most : header_len packet ≤ 60
  pub inside : header_len packet + first_size packet ≤ length packet
  pub few : 20 + length (copied_options packet) ≤ header_len packet
  pub words : length (copied_options packet) % 4 ≡ 0
  pub options : length (option_octets packet) + 20 ≡ header_len packet

fits_words : (n m k : ℕ) → n ≤ m → m + 20 ≡ k * 4 → (20 + (n + (4 - n % 4) % 4) ≤ k * 4) × ((n + (4 - n % 4) % 4) % 4 ≡ 0)
fits_words n m k few whole = (omega arith, omega arith)

pub cut_sizes : (packet : List ℕ) → CutFacts packet → 20 ≤ header_len packet → header_len packet ≤ length packet → CutSizes packet
cut_sizes packet facts words inside =
    let k = slice_index packet 0 % 16 in
    let size : length (option_octets packet) + 20 ≡ header_len packet = omega (arith, length-take (header_len packet - 20) (drop 20 packet), length-drop 20 packet) in
    let few = few-within (length (option_octets packet)) (option_octets packet) in
    let fits = fits_words (length (copied_in (option_octets packet))) (length (option_octets packet)) k few size in
    let copies = length-padded (copied_in (option_octets packet)) in
    record {
      most = omega arith;
      inside = omega (arith, facts.long, length-drop (header_len packet) packet);
      few = omega (arith, fits.0, copies);
      words = ap (λ (n : ℕ). n % 4) copies ∙ fits.1;
      options = size;
    }

-- where a packet is cut, in its numbers
pub record Cutting (packet : List ℕ) (cut : Cut) : Type 0 where
  pub header : cut.header_len ≡ header_len packet
  pub copied : cut.copied_len ≡ length (copied_options packet)
  pub eighths : cut.eighths ≡ first_eighths packet
  pub size : 8 * cut.eighths ≡ first_size packet
  pub options : take (cut.header_len - 20) (drop 20 packet) ≡ option_octets packet
  pub well : are_options (option_octets packet) ≡ true
  pub sizes : CutSizes packet

pub cutting : (base : ℕ) (packet : List ℕ) (cut : Cut) → first_failing (ip_rules base packet) ≡ None → may_split_above least_split_size packet ≡ true → cut ≡ cut_in packet → Cutting packet cut
cutting base packet cut lawful may is =
    let facts = cut_facts least_split_size packet (omega arith) may in
    let v4 = v4_facts base packet lawful facts.four in
    let header : cut.header_len ≡ header_len packet = ap (λ (c : Cut). c.header_len) is in
    let eighths : cut.eighths ≡ first_eighths packet = ap (λ (c : Cut). c.eighths) is in
    record {
      header = header;
      copied = ap (λ (c : Cut). c.copied_len) is;
      eighths = eighths;
      size = ap (λ (n : ℕ). 8 * n) eighths;
      options = ap (λ (n : ℕ). take (n - 20) (drop 20 packet)) header;
      well = facts.well;
      sizes = cut_sizes packet facts v4.words (omega (arith, v4.inside, v4.total));
    }
