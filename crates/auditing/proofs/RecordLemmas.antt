-- The record in front of others, read as it was written.
use Rattle.std.proofs.Common.{◌≡◌, ◌<◌, ◌^◌, ℕ, List, [], ◌∷◌, ◌++◌, length, drop, take, min, ap, ◌∙◌, arith}
use Rattle.std.proofs.lemmas.List.{drop_at, length-append, length-drop, take_at}
use Rattle.octets.specs.Numbers.{little, little_octets}
use Rattle.capture_events.specs.Events.{Packet, records_of}

-- a number of four octets is read as it was written
little-little_octets : (x : ℕ) (rest : List ℕ) → x < 2 ^ 32 → little 4 (little_octets 4 x ++ rest) 0 ≡ x
little-little_octets x rest fits = omega (arith, fits)

-- the size that the record in front names
size-records : (records : List ℕ) (packet : Packet) (others : List Packet) → records ≡ records_of (packet ∷ others) → length records < 2 ^ 32
    → little 4 records 8 ≡ length packet.octets
size-records records packet others is short =
    let whole : length (drop 16 records) ≡ length (packet.octets ++ records_of others) = ap (λ (l : List ℕ). length (drop 16 l)) is in
    let sum = length-append packet.octets (records_of others) in
    let cut = length-drop 16 records in
    let fits : length packet.octets < 2 ^ 32 = omega (arith, whole, sum, cut, short) in
    ap (λ (l : List ℕ). little 4 l 8) is ∙ little-little_octets (length packet.octets) [] fits

-- as many octets are there
size-within : (records : List ℕ) (size : ℕ) (packet : Packet) (others : List Packet) → records ≡ records_of (packet ∷ others) → length records < 2 ^ 32 → size ≡ little 4 records 8
    → length packet.octets ≡ min size (length (drop 16 records))
size-within records size packet others is short says =
    let read : size ≡ length packet.octets = says ∙ size-records records packet others is short in
    let room : length (drop 16 records) ≡ length (packet.octets ++ records_of others) = ap (λ (l : List ℕ). length (drop 16 l)) is in
    let sum = length-append packet.octets (records_of others) in
    omega (arith, read, room, sum)

pub packet-records : (records : List ℕ) (size : ℕ) (packet : Packet) (others : List Packet) → records ≡ records_of (packet ∷ others) → length records < 2 ^ 32 → size ≡ little 4 records 8
    → take (min size (length (drop 16 records))) (drop 16 records) ≡ packet.octets
packet-records records size packet others is short says =
    let fits = size-within records size packet others is short says in
    ap (λ (l : List ℕ). take (min size (length (drop 16 records))) (drop 16 l)) is ∙ take_at packet.octets (records_of others) (min size (length (drop 16 records))) fits

pub others-records : (records : List ℕ) (size : ℕ) (packet : Packet) (others : List Packet) → records ≡ records_of (packet ∷ others) → length records < 2 ^ 32 → size ≡ little 4 records 8
    → drop (min size (length (drop 16 records))) (drop 16 records) ≡ records_of others
others-records records size packet others is short says =
    let fits = size-within records size packet others is short says in
    ap (λ (l : List ℕ). drop (min size (length (drop 16 records))) (drop 16 l)) is ∙ drop_at packet.octets (records_of others) (min size (length (drop 16 records))) fits
