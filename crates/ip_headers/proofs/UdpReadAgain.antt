-- A datagram that was written is read again.
use Rattle.std.proofs.Common.{◌≡◌, ◌<◌, ◌≤◌, ◌+◌, ◌^◌, ◌-◌, ℕ, Bool, true, false, List, [], ◌∷◌, ◌++◌, fold, length, None, All, suc, if◌then◌else◌, refl, sym, ap, ◌∙◌, arith, length-append}
use Rattle.std.proofs.Math.Seq.{drop-append_seam, drop-append-add}
use Rattle.std.proofs.lemmas.Bool.{le-leb}
use Rattle.std.proofs.lemmas.Grind.{common_steps}
use Rattle.octets.specs.Numbers.{big, big_octets}
use Rattle.octets.specs.Rules.{first_failing}
use Rattle.ip_headers.specs.Checksum.{ones_add, ones_sum, words}
use Rattle.ip_headers.specs.Udp.{addr_octets, canonical_udp, datagram, nonzero, pseudo_header, udp_at, udp_checksum, udp_rules, udp_sum}
use Rattle.ip_headers.specs.declared.addr.Addr.{Addr}
use Rattle.ip_headers.specs.declared.addr.Addr.TheVariants.{V4, V6}
use Rattle.ip_headers.proofs.DatagramLemmas.{udp_sum-datagram}
use Rattle.ip_headers.proofs.Spelled.{read_back}
use Rattle.ip_headers.proofs.SumLemmas.{complete, fold-words_le, ones_add-le, sum-addr, word, AreWords}

-- a number behind a front
big-behind : (n at : ℕ) (front octets : List ℕ) → big n (front ++ octets) (length front + at) ≡ big n octets at
big-behind n at front octets = ap (λ (rest : List ℕ). big n rest 0) (drop-append-add front octets at)

big-at_seam : (n : ℕ) (front octets : List ℕ) → big n (front ++ octets) (length front) ≡ big n octets 0
big-at_seam n front octets = ap (λ (rest : List ℕ). big n rest 0) (drop-append_seam front octets)

abbrev pub checksum_of : Addr → Addr → ℕ → ℕ → List ℕ → Bool → ℕ
checksum_of from to source dest payload summed = if summed then udp_checksum from to source dest payload else 0

nonzero-le : (n : ℕ) → n ≤ 65535 → nonzero n ≤ 65535
nonzero-le n small = grind (arith, common_steps)

pub checksum_fits : (from to : Addr) (source dest : ℕ) (payload : List ℕ) (summed : Bool) → checksum_of from to source dest payload summed < 65536
checksum_fits from to source dest payload true =
    let sum = 65535 - udp_sum from to (datagram source dest 0 payload) in
    let small : nonzero sum ≤ 65535 = nonzero-le sum (omega arith) in
    omega (arith, small)
checksum_fits from to source dest payload false = omega arith

pub udp_at-canonical : (from to : Addr) (source dest : ℕ) (payload : List ℕ) (summed : Bool) (front rest : List ℕ)
    → source < 2 ^ 16 → dest < 2 ^ 16 → 8 + length payload < 2 ^ 16
    → udp_at (length front) (front ++ (canonical_udp from to source dest payload summed ++ rest))
    ≡ record { source = source; dest = dest; length = 8 + length payload; checksum = checksum_of from to source dest payload summed; at = length front }
udp_at-canonical from to source dest payload summed front rest s d size =
    let octets = canonical_udp from to source dest payload summed ++ rest in
    let source_is : big 2 (front ++ octets) (length front) ≡ source = big-at_seam 2 front octets ∙ read_back 2 source [] s in
    let dest_is : big 2 (front ++ octets) (length front + 2) ≡ dest = big-behind 2 2 front octets ∙ read_back 2 dest [] d in
    let size_is : big 2 (front ++ octets) (length front + 4) ≡ 8 + length payload = big-behind 2 4 front octets ∙ read_back 2 (8 + length payload) [] size in
    let sum_is : big 2 (front ++ octets) (length front + 6) ≡ checksum_of from to source dest payload summed =
    big-behind 2 6 front octets ∙ read_back 2 (checksum_of from to source dest payload summed) [] (checksum_fits from to source dest payload summed) in
    rw (source_is, dest_is, size_is, sum_is) refl

pub udp_obeys : (base : ℕ) (from to : Addr) (source dest : ℕ) (payload : List ℕ) (summed : Bool) (front rest : List ℕ)
    → 8 + length payload < 2 ^ 16
    → first_failing (udp_rules base (length front) (front ++ (canonical_udp from to source dest payload summed ++ rest))) ≡ None
udp_obeys base from to source dest payload summed front rest size =
    let octets = canonical_udp from to source dest payload summed ++ rest in
    let all = front ++ octets in
    let at = length front in
    let size_is : big 2 all (at + 4) ≡ 8 + length payload = big-behind 2 4 front octets ∙ read_back 2 (8 + length payload) [] size in
    let len : length all ≡ at + (8 + length payload + length rest) = omega (arith, length-append front octets, length-append payload rest) in
    rw (le-leb (at + 8) (length all) (omega (arith, len)), size_is, le-leb 8 (8 + length payload) (omega arith), le-leb (at + (8 + length payload)) (length all) (omega (arith, len))) refl

-- words of octets
are_words : (octets : List ℕ) → All (λ octet. octet < 256) octets → AreWords (words octets)
are_words [] all = tt
are_words (last ∷ []) all = (omega (arith, all 0 0 (omega arith)), tt)
are_words (high ∷ low ∷ rest) all =
    let a : high < 256 = all 0 0 (omega arith) in
    let b : low < 256 = all 1 0 (omega arith) in
    (omega arith, are_words rest (λ (k d : ℕ) (below : k < length rest). all (suc (suc k)) d (omega arith)))

-- words of an address
addr_words : (addr : Addr) → AreWords (words (addr_octets addr))
addr_words (V4 n) = (omega arith, (omega arith, tt))
addr_words (V6 n) = (omega arith, (omega arith, (omega arith, (omega arith, (omega arith, (omega arith, (omega arith, (omega arith, tt))))))))

-- a word that completes a sum, with 0 written as all ones
ones_add-nonzero : (sum : ℕ) → sum ≤ 65535 → ones_add sum (nonzero (65535 - sum)) ≡ 65535
ones_add-nonzero sum small = grind (arith, common_steps)

-- the sum over an address and over a pseudo-header is a word
addr_le : (addr : Addr) (start : ℕ) → start ≤ 65535 → fold ones_add start (words (addr_octets addr)) ≤ 65535
addr_le addr start small = fold-words_le (words (addr_octets addr)) start (addr_words addr) small

pseudo_le : (from to : Addr) (size : ℕ) → ones_sum (pseudo_header from to size) ≤ 65535
pseudo_le (V4 n) to size =
    let before = addr_le (V4 n) 0 (omega arith) in
    let end = 0 ∷ 17 ∷ big_octets 2 size in
    rw (sum-addr to (fold ones_add 0 (words (big_octets 4 n))) end) (fold-words_le (words end) _ (omega arith, (omega arith, tt)) (addr_le to _ before))
pseudo_le (V6 n) to size =
    let before = addr_le (V6 n) 0 (omega arith) in
    let end = big_octets 4 size ++ 0 ∷ 0 ∷ 0 ∷ 17 ∷ [] in
    rw (sum-addr to (fold ones_add 0 (words (big_octets 16 n))) end) (fold-words_le (words end) _ (omega arith, (omega arith, (omega arith, (omega arith, tt)))) (addr_le to _ before))

pub udp_sum-canonical : (from to : Addr) (source dest : ℕ) (payload : List ℕ) → All (λ octet. octet < 256) payload
    → udp_sum from to (canonical_udp from to source dest payload true) ≡ 65535
udp_sum-canonical from to source dest payload octets =
    let size = 8 + length payload in
    let ports : List ℕ = words (big_octets 2 source ++ (big_octets 2 dest ++ big_octets 2 size)) in
    let start : ℕ = fold ones_add (ones_sum (pseudo_header from to size)) ports in
    let start_small : start ≤ 65535 = fold-words_le ports (ones_sum (pseudo_header from to size)) (omega arith, (omega arith, (omega arith, tt))) (pseudo_le from to size) in
    let are = are_words payload octets in
    let blank = udp_sum from to (datagram source dest 0 payload) in
    let split : blank ≡ fold ones_add (ones_add start 0) (words payload) = udp_sum-datagram from to source dest 0 payload in
    let blank_small : blank ≤ 65535 = rw split (fold-words_le (words payload) (ones_add start 0) are (ones_add-le start 0 start_small (omega arith))) in
    let sum = nonzero (65535 - blank) in
    let sum_small : sum ≤ 65535 = nonzero-le (65535 - blank) (omega arith) in
    let whole : ones_add (fold ones_add (ones_add start 0) (words payload)) sum ≡ 65535 =
    ap (λ (s : ℕ). ones_add s sum) (sym split) ∙ ones_add-nonzero blank blank_small in
    udp_sum-datagram from to source dest sum payload
    ∙ ap (λ (w : ℕ). fold ones_add (ones_add start w) (words payload)) (word sum (omega (arith, sum_small)))
    ∙ complete start sum (words payload) start_small sum_small are whole
