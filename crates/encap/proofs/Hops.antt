-- A forwarded packet is the same packet one hop further.
use Rattle.std.proofs.Common.{◌≡◌, ◌≤◌, ◌<◌, ◌+◌, ◌-◌, ◌%◌, ◌*◌, eqb, ltb, ltb-true, ltb-false, ℕ, zero, suc, List, ◌∷◌, All, length, take, drop, slice_index, Bool, true, false, inl, inr, refl, sym, ap, ◌∙◌, arith}
use Rattle.std.proofs.Math.Seq.{take-append_seam}
use Rattle.std.proofs.lemmas.Bool.{cases_Bool}
use Rattle.std.proofs.lemmas.List.{length-take, get_or-drop, get_or-take, get_or_append_left, get_or-append_right}
use Rattle.octets.specs.Numbers.{big}
use Rattle.octets.proofs.Fronts.{slice_index-take}
use Rattle.ip_headers.specs.Checksum.{checksum, ones_sum}
use Rattle.ip_headers.specs.Ip.{is_v4, is_v6, header_len, header_at, ttl_of}
use Rattle.ip_headers.specs.Packet.{IsPacket}
use Rattle.ip_headers.proofs.CutPacket.{v4_facts, v4_rules, v6_facts, v6_rules, is_six, V4Facts, V6Facts}
use Rattle.encap.specs.Forwarded.{forwarded, forwarded_v4, forwarded_v6, lowered, renewed, Forwarded}
use Rattle.encap.proofs.Lengths.{length-forwarded_v4, length-forwarded_v6, length-renewed}
use Rattle.encap.proofs.Renewed.{changed, slice_index-lowered, total-lowered, ttl-lowered, lowered-front, ones_sum-renewed}

-- an IPv4 packet with its TTL one less, and a checksum that makes the sum whole
lowered_v4 : (base : ℕ) (packet out : List ℕ) (sum : ℕ) → IsPacket base packet → is_v4 packet ≡ true → 1 ≤ slice_index packet 8
    → out ≡ lowered packet sum → length out ≡ length packet → ones_sum (take (header_len packet) out) ≡ 65535 → Forwarded packet out
lowered_v4 base packet out sum is_packet four alive is size whole =
    let f = v4_facts base packet is_packet.lawful four in
    let long : 12 ≤ length packet = omega (arith, f.long) in
    let at = λ (k : ℕ) (same : changed k ≡ false). ap (λ (o : List ℕ). slice_index o k) is ∙ slice_index-lowered packet sum k long same in
    let first : slice_index out 0 ≡ slice_index packet 0 = at 0 refl in
    let ttl : slice_index out 8 ≡ slice_index packet 8 - 1 = ap (λ (o : List ℕ). slice_index o 8) is ∙ ttl-lowered packet sum long in
    let total : big 2 out 2 ≡ big 2 packet 2 = ap (λ (o : List ℕ). big 2 o 2) is ∙ total-lowered packet sum long in
    let four_out : is_v4 out ≡ true = rw first four in
    let len : header_len out ≡ header_len packet = ap (λ (x : ℕ). x % 16 * 4) first in
    let exact : length packet ≡ big 2 packet 2 = rw four at is_packet.exact in
    let sum_out : ones_sum (take (header_len out) out) ≡ 65535 = rw len whole in
    let facts : V4Facts out = record {
      six = rw first f.six;
      long = omega (arith, f.long);
      words = omega (arith, f.words);
      inside = omega (arith, f.inside);
      total = omega (arith, f.total);
      sum = ap (λ (n : ℕ). eqb n 65535) sum_out;
    } in record {
      same_length = size;
      ttl = rw (four_out, four, ttl) (omega arith);
      others = λ k same. at k (rw four at same);
      checksum = λ v4. sum_out;
      lawful = λ at. v4_rules at out four_out facts;
      exact = rw four_out (omega arith);
    }

pub hop_v4 : (base : ℕ) (packet : List ℕ) → IsPacket base packet → is_v4 packet ≡ true → 1 ≤ slice_index packet 8 → Forwarded packet (forwarded_v4 packet)
unfolding renewed
hop_v4 base packet is_packet four alive =
    let f = v4_facts base packet is_packet.lawful four in
    let n = header_len packet in
    let header = take n packet in
    let size : length header ≡ n = omega (arith, length-take n packet, f.inside, f.total) in
    let sum = checksum (lowered header 0) in
    let octets : All (λ octet. octet < 256) header =
    λ (k d : ℕ) (below : k < length header). rw (get_or-take n packet k d (omega arith)) (is_packet.octets k d (omega (arith, f.inside, f.total))) in
    let renewed_size : length (renewed header) ≡ n = length-renewed header (omega (arith, f.words)) ∙ size in
    let whole : ones_sum (take n (forwarded_v4 packet)) ≡ 65535 =
    ap (λ (k : ℕ). ones_sum (take k (forwarded_v4 packet))) (sym renewed_size) ∙ ap ones_sum (take-append_seam (renewed header) (drop n packet)) ∙ ones_sum-renewed header (omega (arith, f.words)) octets in
    lowered_v4 base packet (forwarded_v4 packet) sum is_packet four alive (lowered-front packet n sum (omega (arith, f.words)) (omega (arith, f.inside, f.total))) (length-forwarded_v4 packet (omega (arith, f.words)) (omega (arith, f.inside, f.total))) whole

-- the octets from the Hop Limit on
behind : (octets : List ℕ) (hops m : ℕ) → eqb (7 + m) 7 ≡ false → slice_index (hops ∷ drop 8 octets) m ≡ slice_index octets (7 + m)
behind octets hops zero same = cc
behind octets hops (suc m) same =
    let at : 8 + m ≡ 7 + suc m = omega arith in
    get_or-drop 8 octets m 0 ∙ ap (λ (k : ℕ). slice_index octets k) at

slice_index-forwarded_v6 : (octets : List ℕ) (k : ℕ) → 8 ≤ length octets → eqb k 7 ≡ false → slice_index (forwarded_v6 octets) k ≡ slice_index octets k
slice_index-forwarded_v6 octets k long same =
    let front = take 7 octets in
    let size : length front ≡ 7 = omega (arith, length-take 7 octets) in
    let back = (slice_index octets 7 - 1) ∷ drop 8 octets in
    elim (cases_Bool (ltb k 7)) [
      | inl e ↦ let below : k < 7 = ltb-true k 7 e in get_or_append_left front back 0 k (omega arith) ∙ slice_index-take 7 k octets below
      | inr e ↦ let above : 7 ≤ k = ltb-false k 7 e in let at : 7 + (k - 7) ≡ k = omega arith in
          get_or-append_right front back 7 k 0 size above ∙ behind octets (slice_index octets 7 - 1) (k - 7) (ap (λ (i : ℕ). eqb i 7) at ∙ same) ∙ ap (λ (i : ℕ). slice_index octets i) at
    ]

payload-forwarded_v6 : (octets : List ℕ) → 8 ≤ length octets → big 2 (forwarded_v6 octets) 4 ≡ big 2 octets 4
payload-forwarded_v6 (a ∷ b ∷ c ∷ d ∷ e ∷ f ∷ g ∷ h ∷ rest) long = refl
payload-forwarded_v6 octets long = absurd (omega arith)

hops-forwarded_v6 : (octets : List ℕ) → 8 ≤ length octets → slice_index (forwarded_v6 octets) 7 ≡ slice_index octets 7 - 1
hops-forwarded_v6 (a ∷ b ∷ c ∷ d ∷ e ∷ f ∷ g ∷ h ∷ rest) long = refl
hops-forwarded_v6 octets long = absurd (omega arith)

pub hop_v6 : (base : ℕ) (packet : List ℕ) → IsPacket base packet → is_v4 packet ≡ false → 1 ≤ slice_index packet 7 → Forwarded packet (forwarded_v6 packet)
hop_v6 base packet is_packet six alive =
    let f = v6_facts base packet is_packet.lawful (is_six base packet is_packet.lawful six) in
    let long : 8 ≤ length packet = omega (arith, f.long) in
    let out = forwarded_v6 packet in
    let size : length out ≡ length packet = length-forwarded_v6 packet long in
    let first : slice_index out 0 ≡ slice_index packet 0 = slice_index-forwarded_v6 packet 0 long refl in
    let hops : slice_index out 7 ≡ slice_index packet 7 - 1 = hops-forwarded_v6 packet long in
    let payload : big 2 out 4 ≡ big 2 packet 4 = payload-forwarded_v6 packet long in
    let four_out : is_v4 out ≡ false = rw first six in
    let six_out : is_v6 out ≡ true = rw first (is_six base packet is_packet.lawful six) in
    let exact : length packet ≡ big 2 packet 4 + 40 = rw six at is_packet.exact in
    let facts : V6Facts out = record { four = four_out; long = omega (arith, f.long); total = omega (arith, f.total) } in record {
      same_length = size;
      ttl = rw (four_out, six, hops) (omega arith);
      others = λ k same. slice_index-forwarded_v6 packet k long (rw six at same);
      checksum = λ v4. absurd (cc);
      lawful = λ at. v6_rules at out six_out facts;
      exact = rw four_out (omega arith);
    }

by_version : (base : ℕ) (packet : List ℕ) (four : Bool) → is_v4 packet ≡ four → IsPacket base packet → 1 ≤ ttl_of (header_at packet) → Forwarded packet (forwarded packet)
by_version base packet true is is_packet alive = rw is (hop_v4 base packet is_packet is (rw is at alive))
by_version base packet false is is_packet alive = rw is (hop_v6 base packet is_packet is (rw is at alive))

pub hop : (base : ℕ) (packet : List ℕ) → IsPacket base packet → 1 ≤ ttl_of (header_at packet) → Forwarded packet (forwarded packet)
hop base packet is_packet alive = by_version base packet (is_v4 packet) refl is_packet alive
