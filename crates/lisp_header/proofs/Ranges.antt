-- What octets spell is in range.
use Rattle.std.proofs.Common.{◌≡◌, ◌<◌, ◌≤◌, ◌^◌, ℕ, ◌+◌, ◌/◌, ◌%◌, ◌&&◌, Bool, true, false, not, List, slice_index, drop, Some, None, IsSome, IsTrue, IfSome, OnSome, Fits, w8, if◌then◌else◌, refl, arith}
use Rattle.std.proofs.lemmas.List.{get_or-drop}
use Rattle.octets.specs.Numbers.{big}
use Rattle.lisp_header.specs.Header.{InRange, header_at, nonce_present, status_enabled, versions_present, instance_present, status_bits, flag_at}

abbrev pub AreOctets : List ℕ → Type 0
AreOctets octets = (k : ℕ) → Fits w8 (slice_index octets k)

below : (set : Bool) (x limit : ℕ) → x < limit → IfSome (if set then Some x else None) (λ value. value < limit)
below true x limit fits = fits
below false x limit fits = tt

both_below : (set : Bool) (x y : ℕ) → x ≤ 4095 → y ≤ 4095 → IfSome (if set then Some (x, y) else None) (λ (both : ℕ × ℕ). (both.0 ≤ 4095) × (both.1 ≤ 4095))
both_below true x y left right = (left, right)
both_below false x y left right = tt

apart : (nonce versions : Bool) (x : ℕ) (both : ℕ × ℕ) → OnSome (if nonce then Some x else None) ((if not nonce && versions then Some both else None) ≡ None)
apart true versions x both = refl
apart false versions x both = tt

with_nonce : (nonce echo : Bool) (x : ℕ) → IsTrue (nonce && echo) → IsSome (if nonce then Some x else None)
with_nonce true echo x set = refl
with_nonce false echo x set = cc

short : (instance status : Bool) (x bits long : ℕ) → bits < 2 ^ 8 → OnSome (if instance then Some x else None) (IfSome (if status then Some (if instance then bits else long) else None) (λ value. value < 2 ^ 8))
short true status x bits long fits = below status bits (2 ^ 8) fits
short false status x bits long fits = tt

either : (instance : Bool) (bits long : ℕ) → bits < 2 ^ 8 → long < 2 ^ 32 → (if instance then bits else long) < 2 ^ 32
either true bits long left right = omega arith
either false bits long left right = right

-- the octets behind a place
behind : (octets : List ℕ) (at k : ℕ) → AreOctets octets → slice_index (drop at octets) k < 256
behind octets at k small = let fits = small (at + k) in rw (get_or-drop at octets k 0) (omega arith)

three : (octets : List ℕ) (at : ℕ) → AreOctets octets → big 3 octets at < 2 ^ 24
three octets at small = omega (arith, behind octets at 0 small, behind octets at 1 small, behind octets at 2 small)

four : (octets : List ℕ) (at : ℕ) → AreOctets octets → big 4 octets at < 2 ^ 32
four octets at small = omega (arith, behind octets at 0 small, behind octets at 1 small, behind octets at 2 small, behind octets at 3 small)

pub in_range : (octets : List ℕ) → AreOctets octets → InRange (header_at octets)
in_range octets small =
    let middle = three octets 1 small in
    let last = small 7 in
    record {
      nonce = below (nonce_present octets) (big 3 octets 1) (2 ^ 24) middle;
      echo = with_nonce (nonce_present octets) (flag_at 32 octets) (big 3 octets 1);
      versions = both_below (versions_present octets) (big 3 octets 1 / 4096) (big 3 octets 1 % 4096) (omega arith) (omega arith);
      apart = apart (nonce_present octets) (flag_at 16 octets) (big 3 octets 1) (big 3 octets 1 / 4096, big 3 octets 1 % 4096);
      status = below (status_enabled octets) (status_bits octets) (2 ^ 32) (either (instance_present octets) (slice_index octets 7) (big 4 octets 4) (omega arith) (four octets 4 small));
      short_status = short (instance_present octets) (status_enabled octets) (big 3 octets 4) (slice_index octets 7) (big 4 octets 4) (omega arith);
      instance = below (instance_present octets) (big 3 octets 4) (2 ^ 24) (three octets 4 small);
      key = omega arith;
    }
