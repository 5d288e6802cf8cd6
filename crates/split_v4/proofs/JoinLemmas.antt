-- The halves of a packet are packets, and join to it.
use Rattle.std.proofs.Common.{◌≡◌, ◌≤◌, ◌<◌, ◌+◌, ◌-◌, ◌/◌, ◌%◌, eqb, ℕ, true, false, List, length, take, drop, slice_index, sym, ap, ◌∙◌, arith, length-drop}
use Rattle.std.proofs.lemmas.Bool.{eqb-true}
use Rattle.std.proofs.lemmas.List.{get_or-drop, length-take, take-append-drop}
use Rattle.std.proofs.lemmas.List.Elements.{All-drop, All-take}
use Rattle.octets.specs.Numbers.{big}
use Rattle.ip_headers.specs.Ip.{header_len, v4_at, version}
use Rattle.ip_headers.specs.Packet.{IsPacket}
use Rattle.ip_headers.proofs.CutPacket.{v4_facts, v4_rules, V4Facts}
use Rattle.lisp_settings.specs.declared.settings.Settings.{Settings}
use Rattle.split_v4.specs.Halves.{copied_options, first_eighths, first_half, first_size, flags_of, has_more, may_split, option_octets, payload_of, second_half, with_more}
use Rattle.split_v4.specs.Joining.{IsPart, Join}
use Rattle.split_v4.specs.Limits.{split_size}
use Rattle.split_v4.proofs.CopyLemmas.{AreOctets, copied-octets}
use Rattle.split_v4.proofs.FactLemmas.{IsInput, IsMade, is_made}
use Rattle.split_v4.proofs.FlagLemmas.{stays-raised, stays-with_more}
use Rattle.split_v4.proofs.LeavingLemmas.{split_size-least}
use Rattle.split_v4.proofs.SizeLemmas.{cut_facts, cut_sizes, CutFacts, CutSizes}

-- a number of 16 bits in octets
big-fits : (octets : List ℕ) (at : ℕ) → AreOctets octets → at + 1 < length octets → big 2 octets at < 65536
big-fits octets at are within =
    let high : slice_index octets at < 256 = are at 0 (omega (arith, within)) in
    let low : slice_index octets (at + 1) < 256 = are (at + 1) 0 within in
    omega (arith, high, low, get_or-drop at octets 0 0, get_or-drop at octets 1 0)

-- what is known of a packet that may be split
record IsCut (packet : List ℕ) : Type 0 where
  pub octets : AreOctets packet
  pub facts : CutFacts packet
  pub sizes : CutSizes packet
  pub words : 20 ≤ header_len packet
  pub short : length packet < 65536
  pub narrow : flags_of packet < 65536

is_cut : (settings : Settings) (base : ℕ) (packet : List ℕ) → IsPacket base packet → may_split settings packet ≡ true → IsCut packet
is_cut settings base packet is may =
    let facts = cut_facts (split_size settings) packet (split_size-least settings) may in
    let v4 = v4_facts base packet is.lawful facts.four in
    let exact : length packet ≡ big 2 packet 2 = rw facts.four at is.exact in
    let fits = big-fits packet 2 is.octets (omega (arith, v4.long)) in
    record {
      octets = is.octets;
      facts = facts;
      sizes = cut_sizes packet facts v4.words (omega (arith, v4.inside, v4.total));
      words = v4.words;
      short = omega (arith, exact, fits);
      narrow = big-fits packet 6 is.octets (omega (arith, v4.long));
    }

first-made : (packet : List ℕ) → IsCut packet → IsMade packet (option_octets packet) (take (first_size packet) (payload_of packet)) (with_more (flags_of packet)) (first_half packet)
first-made packet cut =
    let behind = All-drop (λ octet. octet < 256) (header_len packet) packet cut.octets in
    let input : IsInput packet (option_octets packet) (take (first_size packet) (payload_of packet)) (with_more (flags_of packet)) = record {
      octets = cut.octets;
      long = omega (arith, cut.facts.long);
      of_options = All-take (λ octet. octet < 256) (header_len packet - 20) (drop 20 packet) (All-drop (λ octet. octet < 256) 20 packet cut.octets);
      of_payload = All-take (λ octet. octet < 256) (first_size packet) (payload_of packet) behind;
      words = omega (arith, cut.sizes.options);
      few = omega (arith, cut.sizes.options, cut.sizes.most);
      total = omega (arith, cut.sizes.options, cut.sizes.inside, cut.short, length-take (first_size packet) (payload_of packet));
      narrow = (stays-with_more (flags_of packet) cut.narrow).narrow;
    } in
    is_made packet (option_octets packet) (take (first_size packet) (payload_of packet)) (with_more (flags_of packet)) input

second-made : (packet : List ℕ) → IsCut packet
    → IsMade packet (copied_options packet) (drop (first_size packet) (payload_of packet)) (flags_of packet + first_eighths packet) (second_half packet)
second-made packet cut =
    let behind = All-drop (λ octet. octet < 256) (header_len packet) packet cut.octets in
    let input : IsInput packet (copied_options packet) (drop (first_size packet) (payload_of packet)) (flags_of packet + first_eighths packet) = record {
      octets = cut.octets;
      long = omega (arith, cut.facts.long);
      of_options = copied-octets (option_octets packet) (All-take (λ octet. octet < 256) (header_len packet - 20) (drop 20 packet) (All-drop (λ octet. octet < 256) 20 packet cut.octets));
      of_payload = All-drop (λ octet. octet < 256) (first_size packet) (payload_of packet) behind;
      words = cut.sizes.words;
      few = omega (arith, cut.sizes.few, cut.sizes.most);
      total = omega (arith, cut.sizes.few, cut.short, length-drop (first_size packet) (payload_of packet), length-drop (header_len packet) packet, cut.sizes.inside);
      narrow = (stays-raised (flags_of packet) (first_eighths packet) cut.narrow cut.facts.near).narrow;
    } in
    is_made packet (copied_options packet) (drop (first_size packet) (payload_of packet)) (flags_of packet + first_eighths packet) input

-- what is made so is a part of the packet
made-part : (packet options payload : List ℕ) (flags : ℕ) (part : List ℕ) → IsMade packet options payload flags part → length part ≤ length packet
    → flags / 32768 ≡ flags_of packet / 32768 → eqb (flags / 16384 % 2) 1 ≡ false → IsPart packet part
made-part packet options payload flags part made shorter reserved dont =
    let four : version part ≡ 4 = eqb-true (version part) 4 made.version in
    let facts : V4Facts part = record {
      six = ap (λ (v : ℕ). eqb v 6) four;
      long = omega (arith, made.size);
      words = omega (arith, made.header);
      inside = omega (arith, made.header, made.total, made.size);
      total = omega (arith, made.total);
      sum = ap (λ (n : ℕ). eqb n 65535) made.sum;
    } in record {
      lawful = λ base. record { octets = made.octets; lawful = v4_rules base part made.version facts; exact = rw made.version (sym made.total) };
      version = made.version;
      shorter = shorter;
      tos = made.tos;
      id = made.id;
      reserved = ap (λ (n : ℕ). n / 32768) made.flag_word ∙ reserved;
      dont_fragment = ap (λ (n : ℕ). eqb (n / 16384 % 2) 1) made.flag_word ∙ dont;
      ttl = made.ttl;
      protocol = made.protocol;
      source = made.source;
      dest = made.dest;
    }

pub first-part : (settings : Settings) (base : ℕ) (packet : List ℕ) → IsPacket base packet → may_split settings packet ≡ true → IsPart packet (first_half packet)
first-part settings base packet is may =
    let cut = is_cut settings base packet is may in
    let made = first-made packet cut in
    let stays = stays-with_more (flags_of packet) cut.narrow in
    made-part packet (option_octets packet) (take (first_size packet) (payload_of packet)) (with_more (flags_of packet)) (first_half packet) made
    (omega (arith, made.size, cut.sizes.options, cut.sizes.inside, length-take (first_size packet) (payload_of packet))) stays.reserved
    (ap (λ (n : ℕ). eqb n 1) stays.dont_fragment ∙ cut.facts.splits)

pub second-part : (settings : Settings) (base : ℕ) (packet : List ℕ) → IsPacket base packet → may_split settings packet ≡ true → IsPart packet (second_half packet)
second-part settings base packet is may =
    let cut = is_cut settings base packet is may in
    let made = second-made packet cut in
    let stays = stays-raised (flags_of packet) (first_eighths packet) cut.narrow cut.facts.near in
    made-part packet (copied_options packet) (drop (first_size packet) (payload_of packet)) (flags_of packet + first_eighths packet) (second_half packet) made
    (omega (arith, made.size, cut.sizes.few, cut.sizes.inside, length-drop (first_size packet) (payload_of packet), length-drop (header_len packet) packet)) stays.reserved
    (ap (λ (n : ℕ). eqb n 1) stays.dont_fragment ∙ cut.facts.splits)

pub halves-join : (settings : Settings) (base : ℕ) (packet : List ℕ) → IsPacket base packet → may_split settings packet ≡ true → Join packet (first_half packet) (second_half packet)
halves-join settings base packet is may =
    let cut = is_cut settings base packet is may in
    let first = first-made packet cut in
    let second = second-made packet cut in
    let more = stays-with_more (flags_of packet) cut.narrow in
    let raised = stays-raised (flags_of packet) (first_eighths packet) cut.narrow cut.facts.near in
    let begins : (v4_at (first_half packet)).offset ≡ (v4_at packet).offset = ap (λ (n : ℕ). n % 8192) first.flag_word ∙ more.offset in
    let goes : (v4_at (second_half packet)).offset ≡ (v4_at packet).offset + first_eighths packet = ap (λ (n : ℕ). n % 8192) second.flag_word ∙ raised.offset in
    let size : length (payload_of (first_half packet)) ≡ first_size packet =
    ap length first.behind ∙ omega (arith, length-take (first_size packet) (payload_of packet), length-drop (header_len packet) packet, cut.sizes.inside) in
    record {
      payload = rw (first.behind, second.behind) (take-append-drop (first_size packet) (payload_of packet));
      begins = begins;
      meets = omega (arith, begins, goes, size);
      goes_on = ap has_more first.flag_word ∙ more.more;
      ends = ap has_more second.flag_word ∙ raised.more;
      options = first.between;
      copied = second.between;
    }
