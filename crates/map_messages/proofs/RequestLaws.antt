-- Map-Requests: what is spelled is read, and what is read is spelled.
use Rattle.std.proofs.Common.{◌≡◌, ◌≤◌, ℕ, ◌+◌, Bool, true, false, List, [], ◌++◌, length, drop, slice_index, Option, Some, None, if◌then◌else◌, refl, sym, ap, ◌∙◌}
use Rattle.std.specs.Prelude.{is_some, option_to_list}
use Rattle.octets.specs.Rules.{first_failing}
use Rattle.mapping_records.specs.Eid.{eid_size}
use Rattle.mapping_records.specs.Record.{record_rules, record_size, IsRecordAt, SpellsRecord}
use Rattle.mapping_records.specs.declared.record.Record.{Record}
use Rattle.mapping_records.proofs.SpelledRecord.{back_passes, front_passes}
use Rattle.mapping_records.proofs.WholeRecord.{record_is_spelled, same_at, some_record}
use Rattle.map_messages.specs.Items.{items_rules, items_size, AreItems}
use Rattle.map_messages.specs.Request.{addr_count, addrs_place, addrs_rules, asked_eid_rules, asked_eid_size, eid_count, eids_place, eids_rules, piggyback_rules, record_count, record_place, reply_addr_rules, reply_addr_size, request_rules, request_size, source_at, source_rules, IsAskedEid, IsReplyAddr, IsRequestAt, SpellsAskedEid, SpellsReplyAddr, SpellsRequest}
use Rattle.map_messages.specs.Words.{bit, kind, nonce_at}
use Rattle.map_messages.specs.declared.message.MapRequest.{MapRequest}
use Rattle.map_messages.proofs.AddrLaws.{addr_is_spelled, same_addr, some_addr, spelled_addr}
use Rattle.map_messages.proofs.AskedEidLaws.{asked_is_spelled, same_asked, some_asked, spelled_asked}
use Rattle.map_messages.proofs.ItemLaws.{are_spelled, same_items, some_items, spelled_items, ItemsRead}
use Rattle.map_messages.proofs.ItemsLemmas.{Rules, Size}
use Rattle.map_messages.proofs.ReplyLaws.{record_read}
use Rattle.map_messages.proofs.RequestLemmas.{behind_eids, behind_source_place, eids_place_is, part_read, record_place_is, request_size_is, PartRead}
use Rattle.map_messages.proofs.SourceLaws.{source_is_spelled, spelled_source}

-- a Map-Request that obeys the rules, with its value and its octets
pub record ReadRequest (octets : List ℕ) (request : MapRequest) (size : ℕ) : Type 0 where
  pub pass : (base : ℕ) → first_failing (request_rules base octets) ≡ None
  pub value : IsRequestAt octets request
  pub end : request_size octets ≡ size

-- items that were read, at a place
placed : {T : Type 0} (Is : List ℕ → T → Type 0) (rules : Rules) (size : Size) (count at place n : ℕ) (octets : List ℕ) (items : List T)
    → ItemsRead Is rules size (drop at octets) items n → count ≡ length items → at ≡ place → (base : ℕ) → PartRead Is rules size count base place octets items (at + n)
placed Is rules size count at place n octets items read number at_is base =
    part_read Is rules size count base at place n octets (drop at octets) items at_is refl
    (ap (λ (k : ℕ). first_failing (items_rules rules size k (base + at) (drop at octets))) number ∙ read.pass (base + at))
    (record { number = sym number; each = read.each })
    (sym (ap (λ (k : ℕ). items_size size k (drop at octets)) number ∙ read.end))

-- an optional record as so many records
count_of : (option : Option Record) → (if is_some option then 1 else 0) ≡ length (option_to_list option)
count_of (Some mapping) = refl
count_of None = refl

-- a record is there exactly where one follows
follows_of : (follows : Bool) (option : Option Record) → length (option_to_list option) ≡ (if follows then 1 else 0) → follows ≡ is_some option
follows_of true (Some mapping) number = refl
follows_of false None number = refl
follows_of true None number = cc
follows_of false (Some mapping) number = cc

-- optional records with the same items are the same
same_option : (a b : Option Record) → option_to_list a ≡ option_to_list b → a ≡ b
same_option (Some a) (Some b) is = cc
same_option None None is = refl
same_option (Some a) None is = cc
same_option None (Some b) is = cc

-- what is spelled is read
pub spelled_request : (octets : List ℕ) (request : MapRequest) (size : ℕ) → SpellsRequest octets request size → ReadRequest octets request size
spelled_request octets request size s =
    let source = spelled_source (drop 12 octets) request.source s.source_octets s.source in
    let addrs_at : s.source_end ≡ addrs_place octets = s.behind_source ∙ behind_source_place octets (drop 12 octets) s.source_octets refl (sym source.end) in
    let addrs = placed IsReplyAddr reply_addr_rules reply_addr_size (addr_count octets) s.source_end (addrs_place octets) s.addrs_octets octets request.replies_to
    (spelled_items IsReplyAddr reply_addr_rules reply_addr_size SpellsReplyAddr spelled_addr (drop s.source_end octets) request.replies_to s.addrs_octets s.replies_to) s.addrs addrs_at in
    let eids_at : s.addrs_end ≡ eids_place octets = s.behind_addrs ∙ (addrs 0).next ∙ sym (eids_place_is octets) in
    let eids = placed IsAskedEid asked_eid_rules asked_eid_size (eid_count octets) s.addrs_end (eids_place octets) s.eids_octets octets request.eids
    (spelled_items IsAskedEid asked_eid_rules asked_eid_size SpellsAskedEid spelled_asked (drop s.addrs_end octets) request.eids s.eids_octets s.eids) s.records eids_at in
    let record_at : s.eids_end ≡ record_place octets = s.behind_eids ∙ (eids 0).next ∙ sym (record_place_is octets) in
    let follows : record_count octets ≡ length (option_to_list request.piggyback) =
    ap (λ (b : Bool). if b then 1 else 0) s.record_follows ∙ count_of request.piggyback in
    let mapping = placed IsRecordAt record_rules record_size (record_count octets) s.eids_end (record_place octets) s.record_octets octets (option_to_list request.piggyback)
    (spelled_items IsRecordAt record_rules record_size SpellsRecord record_read (drop s.eids_end octets) (option_to_list request.piggyback) s.record_octets s.piggyback) follows record_at in
    record {
      pass = λ base. behind_eids base octets (source.pass (base + 12)) (addrs base).pass (eids base).pass ∙ (mapping base).pass;
      value = record {
        message_type = s.message_type;
        probe = sym s.probe;
        smr = sym s.smr;
        invoked = sym s.invoked;
        nonce = sym s.nonce;
        source = source.value;
        replies_to = (addrs 0).are;
        eids = (eids 0).are;
        piggyback = (mapping 0).are;
      };
      end = request_size_is octets ∙ sym (mapping 0).next ∙ sym s.end;
    }

-- the rules of the parts
record Parts (base : ℕ) (octets : List ℕ) : Type 0 where
  source : first_failing (source_rules base octets) ≡ None
  addrs : first_failing (addrs_rules base octets) ≡ None
  eids : first_failing (eids_rules base octets) ≡ None
  piggyback : first_failing (piggyback_rules base octets) ≡ None

-- the rules of the parts pass
parts : (base : ℕ) (octets : List ℕ) → first_failing (request_rules base octets) ≡ None → Parts base octets
unfolding request_rules
parts base octets none =
    let source = source_rules base octets in
    let addrs = addrs_rules base octets in
    let eids = eids_rules base octets in
    let piggyback = piggyback_rules base octets in
    let behind_source = back_passes source (addrs ++ (eids ++ piggyback)) none in
    let behind_addrs = back_passes addrs (eids ++ piggyback) behind_source in
    record {
      source = front_passes source (addrs ++ (eids ++ piggyback)) none;
      addrs = front_passes addrs (eids ++ piggyback) behind_source;
      eids = front_passes eids piggyback behind_addrs;
      piggyback = back_passes eids piggyback behind_addrs;
    }

-- what is read is spelled
pub request_is_spelled : (base : ℕ) (octets : List ℕ) (request : MapRequest) → 12 ≤ length octets → first_failing (request_rules base octets) ≡ None
    → IsRequestAt octets request → SpellsRequest octets request (request_size octets)
request_is_spelled base octets request head none at =
    let p = parts base octets none in
    let source_octets = eid_size (drop 12 octets) in
    let addrs_rest : List ℕ = drop (addrs_place octets) octets in
    let eids_rest : List ℕ = drop (eids_place octets) octets in
    let record_rest : List ℕ = drop (record_place octets) octets in
    record {
      head = head;
      message_type = at.message_type;
      record_follows = follows_of (bit 4 (slice_index octets 0)) request.piggyback at.piggyback.number;
      probe = sym at.probe;
      smr = sym at.smr;
      invoked = sym at.invoked;
      addrs = sym at.replies_to.number;
      records = sym at.eids.number;
      nonce = sym at.nonce;
      source_end = addrs_place octets;
      source_octets = source_octets;
      source = source_is_spelled (base + 12) (drop 12 octets) request.source p.source at.source;
      behind_source = sym (behind_source_place octets (drop 12 octets) source_octets refl refl);
      addrs_end = eids_place octets;
      addrs_octets = items_size reply_addr_size (addr_count octets) addrs_rest;
      replies_to = are_spelled IsReplyAddr reply_addr_rules reply_addr_size SpellsReplyAddr addr_is_spelled (addr_count octets) (base + addrs_place octets) addrs_rest request.replies_to p.addrs at.replies_to;
      behind_addrs = eids_place_is octets;
      eids_end = record_place octets;
      eids_octets = items_size asked_eid_size (eid_count octets) eids_rest;
      eids = are_spelled IsAskedEid asked_eid_rules asked_eid_size SpellsAskedEid asked_is_spelled (eid_count octets) (base + eids_place octets) eids_rest request.eids p.eids at.eids;
      behind_eids = record_place_is octets;
      record_octets = items_size record_size (record_count octets) record_rest;
      piggyback = are_spelled IsRecordAt record_rules record_size SpellsRecord record_is_spelled (record_count octets) (base + record_place octets) record_rest (option_to_list request.piggyback) p.piggyback at.piggyback;
      end = request_size_is octets;
    }

-- a record is there where one follows
some_option : (follows : Bool) (base : ℕ) (octets : List ℕ) → first_failing (items_rules record_rules record_size (if follows then 1 else 0) base octets) ≡ None
    → (option : Option Record) × AreItems IsRecordAt record_size (if follows then 1 else 0) octets (option_to_list option)
some_option true base octets none =
    let mapping = some_record base octets (front_passes (record_rules base octets) [] none) in
    (Some mapping.0, record { number = refl; each = (mapping.1, tt) })
some_option false base octets none = (None, record { number = refl; each = tt })

-- a Map-Request is there
pub some_request : (base : ℕ) (octets : List ℕ) → kind octets ≡ 1 → first_failing (request_rules base octets) ≡ None → (request : MapRequest) × IsRequestAt octets request
some_request base octets one none =
    let p = parts base octets none in
    let addrs = some_items IsReplyAddr reply_addr_rules reply_addr_size some_addr (addr_count octets) (base + addrs_place octets) (drop (addrs_place octets) octets) p.addrs in
    let eids = some_items IsAskedEid asked_eid_rules asked_eid_size some_asked (eid_count octets) (base + eids_place octets) (drop (eids_place octets) octets) p.eids in
    let mapping = some_option (bit 4 (slice_index octets 0)) (base + record_place octets) (drop (record_place octets) octets) p.piggyback in (
      record {
        probe = bit 2 (slice_index octets 0);
        smr = bit 1 (slice_index octets 0);
        invoked = bit 64 (slice_index octets 1);
        nonce = nonce_at octets;
        source = source_at (drop 12 octets);
        replies_to = addrs.0;
        eids = eids.0;
        piggyback = mapping.0;
      },
      record {
        message_type = one;
        probe = refl;
        smr = refl;
        invoked = refl;
        nonce = refl;
        source = refl;
        replies_to = addrs.1;
        eids = eids.1;
        piggyback = mapping.1;
      },
    )

-- the Map-Request at the front is one
pub same_request : (octets : List ℕ) (a b : MapRequest) → IsRequestAt octets a → IsRequestAt octets b → a ≡ b
same_request octets a b s t =
    let addrs = same_items IsReplyAddr reply_addr_size same_addr (drop (addrs_place octets) octets) a.replies_to b.replies_to s.replies_to.each t.replies_to.each
    (s.replies_to.number ∙ sym t.replies_to.number) in
    let eids = same_items IsAskedEid asked_eid_size same_asked (drop (eids_place octets) octets) a.eids b.eids s.eids.each t.eids.each (s.eids.number ∙ sym t.eids.number) in
    let mappings = same_items IsRecordAt record_size same_at (drop (record_place octets) octets) (option_to_list a.piggyback) (option_to_list b.piggyback) s.piggyback.each t.piggyback.each
    (s.piggyback.number ∙ sym t.piggyback.number) in
    rw (s.probe ∙ sym t.probe, s.smr ∙ sym t.smr, s.invoked ∙ sym t.invoked, s.nonce ∙ sym t.nonce, s.source ∙ sym t.source, addrs, eids, same_option a.piggyback b.piggyback mappings) refl
