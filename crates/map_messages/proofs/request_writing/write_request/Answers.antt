use Rattle.std.proofs.Common.{◌≡◌, ◌++◌, ℕ, List, OnOk, flat_map, ap, subst, ◌∙◌}
use Rattle.std.specs.Prelude.{option_to_list}
use Rattle.ip_headers.specs.declared.addr.Addr.{Addr}
use Rattle.mapping_records.specs.Address.{canonical_addr}
use Rattle.mapping_records.specs.Record.{canonical_record}
use Rattle.mapping_records.specs.declared.eid.Eid.{Eid}
use Rattle.map_messages.specs.Request.{canonical_asked_eid, canonical_request, canonical_source, request_head}
use Rattle.map_messages.proofs.WritingLemmas.{five_runs}
use Rattle.map_messages.proofs.request_writing.write_request.Goals as goal

pub returns : goal.returns
returns c =
    let out : List ℕ = c.args.out.now in
    let request = c.args.request.now in
    let head : List ℕ = request_head request in
    let source : List ℕ = canonical_source request.source in
    let addrs : List ℕ = flat_map canonical_addr request.replies_to in
    let eids : List ℕ = flat_map canonical_asked_eid request.eids in
    let records : List ℕ = flat_map canonical_record (option_to_list request.piggyback) in
    let one : c.append.new.self ≡ out ++ head = c.in_ok-append.ensures.ok ∙ ap (λ (h : List ℕ). out ++ h) c.head.ensures in
    let two : c.write_source.new.out ≡ (out ++ head) ++ source = c.in_ok-write_source.ensures ∙ ap (λ (o : List ℕ). o ++ source) one in
    let three : c.write_items.new.out ≡ ((out ++ head) ++ source) ++ addrs =
    c.in_ok-write_items.ensures ∙ ap (λ (items : List Addr). c.write_source.new.out ++ flat_map canonical_addr items) c.as_slice.ensures
    ∙ ap (λ (o : List ℕ). o ++ addrs) two in
    let four : c.write_items-2.new.out ≡ (((out ++ head) ++ source) ++ addrs) ++ eids =
    c.in_ok-write_items-2.ensures ∙ ap (λ (items : List Eid). c.write_items.new.out ++ flat_map canonical_asked_eid items) c.as_slice-2.ensures
    ∙ ap (λ (o : List ℕ). o ++ eids) three in
    let whole : c.write_items-2.new.out ++ records ≡ out ++ canonical_request request =
    ap (λ (o : List ℕ). o ++ records) four ∙ five_runs out head source addrs eids records in
    subst (λ (octets : List ℕ). OnOk c.write_piggyback.result (c.write_piggyback.new.out ≡ octets)) whole c.write_piggyback.ensures
