use Rattle.std.proofs.Common.{◌∙◌, ◌≤◌, ◌++◌, List, length, map, filter, filter_map, sym, ap, subst}
use Rattle.map_messages.specs.Range.{InRangeReply}
use Rattle.map_messages.specs.Reply.{canonical_reply}
use Rattle.map_messages.specs.declared.message.MapReply.{MapReply}
use Rattle.mapping_records.specs.declared.eid.Eid.{Eid}
use Rattle.mapping_records.specs.declared.record.Record.{Record}
use Rattle.lisp_settings.specs.declared.settings.Database.{Database}
use Rattle.router_model.specs.Hear.{own_record}
use Rattle.router_model.specs.Site.{database_of}
use Rattle.router_core.specs.Answering.{is_hit, standing_record}
use Rattle.router_core.specs.Seen.{asker_seen}
use Rattle.router_core.proofs.AnsweringLemmas.{hits-stood, reply-made, reply-range, reply-short, standing-records}
use Rattle.router_core.proofs.answering.reply_of.Goals as goal

pub add_records-requires : goal.add_records-requires
add_records-requires c = c.databases-steps.ensures.lawful c.requires.lawful

pub returns-clause-reply : goal.returns-clause-reply
returns-clause-reply c =
    let settings = c.args.site.now in
    let request = c.args.request.now in
    let databases = c.databases-steps.result.0.now in
    let steps = c.databases-steps.result.1 in
    let found : List Database → List Eid → List Eid = λ databases eids. map (λ (database : Database). database.eid) (filter_map (database_of databases) eids) in
    let hits = c.deref.ensures.value
    ∙ c.in_ok-add_hits.ensures
    ∙ ap (λ (l : List Eid). l ++ found databases c.as_slice.result.now) c.new-hits.ensures.items
    ∙ sym (hits-stood steps databases c.as_slice.result.now)
    ∙ ap (λ (l : List Database). found l c.as_slice.result.now) c.databases-steps.ensures.stand
    ∙ ap (found settings.databases) c.as_slice.ensures in
    let records = c.in_ok-add_records.ensures
    ∙ ap (λ (l : List Record). l ++ map (standing_record settings steps c.probed.result) (filter (is_hit c.deref.result.now) databases)) c.new-mappings.ensures
    ∙ standing-records settings steps c.probed.result c.deref.result.now databases
    ∙ ap (λ (l : List Database). map (own_record settings c.probed.result) (filter (is_hit c.deref.result.now) l)) c.databases-steps.ensures.stand in
    reply-made settings (asker_seen c.args.asker) request c.probed.result c.deref.result.now c.add_records.new.records records c.probed.ensures hits

pub returns-clause-range : goal.returns-clause-range
returns-clause-range c =
    subst InRangeReply (sym (returns-clause-reply c)) (reply-range c.args.site.now c.requires.lawful (asker_seen c.args.asker) c.args.request.now)

pub returns-clause-short : goal.returns-clause-short
returns-clause-short c =
    subst (λ (reply : MapReply). length (canonical_reply reply) ≤ 65000) (sym (returns-clause-reply c)) (reply-short c.args.site.now c.requires.lawful (asker_seen c.args.asker) c.args.request.now)
