use Rattle.std.proofs.Common.{◌≡◌, ◌++◌, ℕ, List, OnOk, flat_map, ap, subst, ◌∙◌, append_assoc}
use Rattle.mapping_records.specs.Record.{canonical_record}
use Rattle.mapping_records.specs.declared.record.Record.{Record}
use Rattle.map_messages.specs.Reply.{canonical_reply, reply_head}
use Rattle.map_messages.proofs.reply_writing.write_reply.Goals as goal

pub returns : goal.returns
returns c =
    let out : List ℕ = c.args.out.now in
    let reply = c.args.reply.now in
    let records : List ℕ = flat_map canonical_record reply.mappings in
    let whole : c.append.new.self ++ flat_map canonical_record c.as_slice.result.now ≡ out ++ canonical_reply reply =
    ap (λ (mappings : List Record). c.append.new.self ++ flat_map canonical_record mappings) c.as_slice.ensures
    ∙ ap (λ (front : List ℕ). front ++ records) (c.in_ok-append.ensures.ok ∙ ap (λ (head : List ℕ). out ++ head) c.head.ensures)
    ∙ append_assoc out (reply_head reply) records in
    subst (λ (octets : List ℕ). OnOk c.write_items.result (c.write_items.new.out ≡ octets)) whole c.write_items.ensures
