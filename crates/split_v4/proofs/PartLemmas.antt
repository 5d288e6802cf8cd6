-- A part of a packet, put together in its frame.
use Rattle.std.proofs.Common.{◌≡◌, ◌≤◌, ◌+◌, ◌/◌, ℕ, List, ◌++◌, length, take, drop, refl, ap, ◌∙◌, arith, append_assoc, length-append}
use Rattle.std.proofs.Math.Seq.{take-append_seam, drop-append_seam}
use Rattle.std.proofs.lemmas.List.{length-take}
use Rattle.split_v4.specs.Halves.{front_with, part_of, summed}

-- behind a front of its own length
pub take-front : (n : ℕ) (front rest : List ℕ) → length front ≡ n → take n (front ++ rest) ≡ front
take-front n front rest size = rw (← size) (take-append_seam front rest)

pub drop-front : (n : ℕ) (front rest : List ℕ) → length front ≡ n → drop n (front ++ rest) ≡ rest
drop-front n front rest size = rw (← size) (drop-append_seam front rest)

-- what is put together behind the octets before a packet is its part
pub part-is : (base : ℕ) (frame packet options payload out : List ℕ) (words total flags : ℕ) → base ≤ length frame
    → out ≡ (take base frame ++ front_with packet words total flags 0) ++ options
    → words ≡ (20 + length options) / 4 → total ≡ 20 + length options + length payload
    → take base out ++ (summed (drop base out) ++ payload) ≡ take base frame ++ part_of packet options flags payload
part-is base frame packet options payload out words total flags within is of_words of_total =
    let before = take base frame in
    let front = front_with packet words total flags 0 in
    let size : length before ≡ base = omega (arith, length-take base frame) in
    let whole : out ≡ before ++ (front ++ options) = is ∙ append_assoc before front options in
    rw (whole, take-front base before (front ++ options) size, drop-front base before (front ++ options) size, of_words, of_total) refl

-- how many octets are put together
pub part-size : (base : ℕ) (frame packet options out : List ℕ) (words total flags : ℕ) → base ≤ length frame
    → out ≡ (take base frame ++ front_with packet words total flags 0) ++ options → length out ≡ base + (20 + length options)
part-size base frame packet options out words total flags within is =
    let front = front_with packet words total flags 0 in
    omega (arith, ap length is, length-append (take base frame ++ front) options, length-append (take base frame) front, length-take base frame)
