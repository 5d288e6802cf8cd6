-- The LISP data header, RFC 9300 section 5.3.
use Rattle.std.specs.Prelude.{◌≡◌, ℕ, ◌+◌, ◌*◌, ◌/◌, ◌%◌, ◌^◌, ◌<◌, ◌≤◌, ◌==◌, ◌&&◌, not, nat_le, Bool, true, false, IsTrue, List, [], ◌∷◌, ◌++◌, length, slice_index, if◌then◌else◌, Option, Some, None, is_some, unwrap_or, IsSome, IfSome, OnSome}
use Rattle.octets.specs.Numbers.{big, big_octets, flag}
use Rattle.octets.specs.declared.refused.Refused.{Refused}
use Rattle.octets.specs.declared.refused.Layer.TheVariants.{Lisp}
use Rattle.octets.specs.declared.refused.Why.TheVariants.{Short}
use Rattle.lisp_header.specs.declared.header.LispHeader.{LispHeader}

-- the rule of a LISP header: eight octets are there
abbrev pub lisp_rules : ℕ → List ℕ → List (Bool × Refused)
lisp_rules base octets =
    (nat_le 8 (length octets), record { layer = Lisp; place = base; why = Short }) ∷ []

-- a flag of the first octet, by its weight
abbrev pub flag_at : ℕ → List ℕ → Bool
flag_at weight octets = slice_index octets 0 / weight % 2 == 1

-- N: the three octets from 1 on are a nonce
abbrev pub nonce_present : List ℕ → Bool
nonce_present octets = flag_at 128 octets

-- L: the status bits count
abbrev pub status_enabled : List ℕ → Bool
status_enabled octets = flag_at 64 octets

-- E, which counts only with N: an echo of the nonce is requested
abbrev pub echo_requested : List ℕ → Bool
echo_requested octets = nonce_present octets && flag_at 32 octets

-- V, which counts only without N: the three octets from 1 on are two versions
abbrev pub versions_present : List ℕ → Bool
versions_present octets = not (nonce_present octets) && flag_at 16 octets

-- I: the octets from 4 on are an instance and 8 status bits
abbrev pub instance_present : List ℕ → Bool
instance_present octets = flag_at 8 octets

-- the nonce
abbrev pub nonce_at : List ℕ → Option ℕ
nonce_at octets = if nonce_present octets then Some (big 3 octets 1) else None

-- source and destination version, of 12 bits each
abbrev pub both_versions : List ℕ → ℕ × ℕ
both_versions octets = (big 3 octets 1 / 4096, big 3 octets 1 % 4096)

-- the versions
abbrev pub versions_at : List ℕ → Option (ℕ × ℕ)
versions_at octets =
    if versions_present octets then Some (both_versions octets) else None

-- the number of the status bits, of 8 bits beside an instance
abbrev pub status_bits : List ℕ → ℕ
status_bits octets = if instance_present octets then slice_index octets 7 else big 4 octets 4

-- the status bits
abbrev pub status_at : List ℕ → Option ℕ
status_at octets = if status_enabled octets then Some (status_bits octets) else None

-- the instance
abbrev pub instance_at : List ℕ → Option ℕ
instance_at octets = if instance_present octets then Some (big 3 octets 4) else None

-- the header that the octets spell, if there are eight
abbrev pub header_at : List ℕ → LispHeader
header_at octets = record {
  nonce = nonce_at octets;
  echo = echo_requested octets;
  versions = versions_at octets;
  status = status_at octets;
  instance = instance_at octets;
  key = slice_index octets 0 % 4;
}

-- a field that is there exactly where its flag counts, with its value then
abbrev pub IsField : {T : Type 0} → Option T → Bool → T → Type 0
IsField None present value = present ≡ false
IsField (Some field) present value = (present ≡ true) × (value ≡ field)

-- the octets begin with this header; octets of fields that don't count may be any
pub record Spells (octets : List ℕ) (header : LispHeader) : Type 0 where
  pub nonce : IsField header.nonce (nonce_present octets) (big 3 octets 1)
  pub echo : header.echo ≡ echo_requested octets
  pub versions : IsField header.versions (versions_present octets) (both_versions octets)
  pub status : IsField header.status (status_enabled octets) (status_bits octets)
  pub instance : IsField header.instance (instance_present octets) (big 3 octets 4)
  pub key : slice_index octets 0 % 4 ≡ header.key

-- the fields fit, and stand together as they may
pub record InRange (header : LispHeader) : Type 0 where
  pub nonce : IfSome header.nonce (λ nonce. nonce < 2 ^ 24)
  pub echo : IsTrue header.echo → IsSome header.nonce
  pub versions : IfSome header.versions (λ both. (both.0 ≤ 4095) × (both.1 ≤ 4095))
  pub apart : OnSome header.nonce (header.versions ≡ None)
  pub status : IfSome header.status (λ bits. bits < 2 ^ 32)
  pub short_status : OnSome header.instance (IfSome header.status (λ bits. bits < 2 ^ 8))
  pub instance : IfSome header.instance (λ instance. instance < 2 ^ 24)
  pub key : header.key ≤ 3

-- the first octet
abbrev pub flags_of : LispHeader → ℕ
flags_of header =
    flag (is_some header.nonce) 128 + flag (is_some header.status) 64 + flag header.echo 32
    + flag (is_some header.versions) 16 + flag (is_some header.instance) 8 + header.key

-- the number of the three octets from 1 on
abbrev pub nonce_or_versions : Option ℕ → Option (ℕ × ℕ) → ℕ
nonce_or_versions (Some nonce) versions = nonce
nonce_or_versions None (Some versions) = versions.0 * 4096 + versions.1
nonce_or_versions None None = 0

-- the number of the four octets from 4 on
abbrev pub instance_and_status : Option ℕ → Option ℕ → ℕ
instance_and_status (Some instance) status = instance * 256 + unwrap_or status 0
instance_and_status None status = unwrap_or status 0

-- the one spelling in which each field that doesn't count is 0
abbrev pub canonical : LispHeader → List ℕ
canonical header =
    flags_of header ∷ (big_octets 3 (nonce_or_versions header.nonce header.versions)
    ++ big_octets 4 (instance_and_status header.instance header.status))
