use Rattle.std.proofs.Common.{◌∙◌, sym, length, rules, arith}
use Rattle.std.proofs.lemmas.Result.{err_from_is_err_and}
use Rattle.capture_ng.proofs.BlockLemmas.{bad_end_read, bad_head_read, good_end_read, head_of_file, held_read, last_some, told_whole, where_some}
use Rattle.capture_ng.proofs.blocks.read_block.Goals as goal

pub returns-in_err-head-clause-fault : goal.returns-in_err-head-clause-fault
returns-in_err-head-clause-fault g c =
    let p = err_from_is_err_and c.from_residual-in_err-head.result c.from_residual-in_err-head.ensures.1 in
    rw (p.1, p.2) (λ file. bad_head_read c.args.id.number (g.D.Desk.told c.args.desk.now) c.args.at.now c.in_ok-first.first c.as_slice.result.now c.in_err-head.field-0.0 c.as_slice.ensures.value (omega arith) c.in_err-head.ensures c.in_ok-first.ensures.octets)

pub returns-in_err-head-clause-host : goal.returns-in_err-head-clause-host
returns-in_err-head-clause-host g c =
    let p = err_from_is_err_and c.from_residual-in_err-head.result c.from_residual-in_err-head.ensures.1 in
    let file = head_of_file c.args.at.now c.in_ok-first.first c.as_slice.result.now c.in_err-head.field-0.0 c.as_slice.ensures.value c.in_err-head.ensures in
    rw (p.1, p.2) (search (rules, file))

pub returns-in_err-head-clause-steady : goal.returns-in_err-head-clause-steady
returns-in_err-head-clause-steady g c =
    let p = err_from_is_err_and c.from_residual-in_err-head.result c.from_residual-in_err-head.ensures.1 in
    let file = head_of_file c.args.at.now c.in_ok-first.first c.as_slice.result.now c.in_err-head.field-0.0 c.as_slice.ensures.value c.in_err-head.ensures in
    rw (p.1, p.2) (search (rules, file))

pub read_rest-requires : goal.read_rest-requires
read_rest-requires g c = (held_read c.args.at.now c.in_ok-first.first c.as_slice.result.now c.in_ok-head.head c.as_slice.ensures.value c.in_ok-first.ensures.most c.in_ok-head.ensures).rest

pub returns-in-Some-clause-fault : goal.returns-in-Some-clause-fault
returns-in-Some-clause-fault g c file =
    let head = held_read c.args.at.now c.in_ok-first.first c.as_slice.result.now c.in_ok-head.head c.as_slice.ensures.value c.in_ok-first.ensures.most c.in_ok-head.ensures in
    bad_end_read c.args.id.number (g.D.Desk.told c.args.desk.now) (g.D.Desk.told c.read_first.new.desk) c.args.at.now c.in_ok-first.first c.as_slice.result.now c.in_ok-head.head c.in_ok-octets.field-0.last c.in-Some.fault
    c.as_slice.ensures.value (omega arith) c.in_ok-head.ensures head.rest (sym c.whole_fault.ensures ∙ c.in-Some.is) c.in_ok-first.ensures.told c.in_ok-first.ensures.octets c.in_ok-octets.ensures.last

pub returns-clause-front : goal.returns-clause-front
returns-clause-front g c =
    let head = held_read c.args.at.now c.in_ok-first.first c.as_slice.result.now c.in_ok-head.head c.as_slice.ensures.value c.in_ok-first.ensures.most c.in_ok-head.ensures in
    good_end_read c.args.id.number (g.D.Desk.told c.args.desk.now) (g.D.Desk.told c.read_first.new.desk) c.args.at.now c.in_ok-first.first c.as_slice.result.now c.in_ok-octets.field-0.octets.items c.in_ok-head.head c.in_ok-octets.field-0.last
    c.as_slice.ensures.value c.in_ok-head.ensures head.rest (sym c.whole_fault.ensures ∙ c.in_default.is) c.in_ok-first.ensures.told c.in_ok-first.ensures.octets c.in_ok-octets.ensures.last c.in_ok-octets.ensures.octets

pub returns-clause-held : goal.returns-clause-held
returns-clause-held g c =
    let head = held_read c.args.at.now c.in_ok-first.first c.as_slice.result.now c.in_ok-head.head c.as_slice.ensures.value c.in_ok-first.ensures.most c.in_ok-head.ensures in
    let some = last_some c.args.at.now c.in_ok-head.head c.in_ok-octets.field-0.last (sym c.whole_fault.ensures ∙ c.in_default.is) in
    record { room = head.room; frames = head.frames; least = head.least; whole = where_some c.in_ok-octets.field-0.last _ some c.in_ok-octets.ensures.whole }

pub returns-clause-told : goal.returns-clause-told
returns-clause-told g c =
    let head = held_read c.args.at.now c.in_ok-first.first c.as_slice.result.now c.in_ok-head.head c.as_slice.ensures.value c.in_ok-first.ensures.most c.in_ok-head.ensures in
    let some = last_some c.args.at.now c.in_ok-head.head c.in_ok-octets.field-0.last (sym c.whole_fault.ensures ∙ c.in_default.is) in
    told_whole c.args.id.number (length c.in_ok-first.first) c.in_ok-head.head.length (g.D.Desk.told c.args.desk.now) (g.D.Desk.told c.read_first.new.desk) (g.D.Desk.told c.read_rest.new.desk) head.rest c.in_ok-first.ensures.told (where_some c.in_ok-octets.field-0.last _ some c.in_ok-octets.ensures.told)
