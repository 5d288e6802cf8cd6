use Rattle.std.proofs.Common.{◌∙◌, ◌+◌, Option, Some, None, Ok, refl, subst, sym, ap}
use Rattle.std.proofs.lemmas.Result.{err_from_is_err_and}
use Rattle.capture_io.specs.Frame.{Frame}
use Rattle.desk.proofs.Reading.{reads_on}
use Rattle.capture_ng.specs.Found.{further, stopped}
use Rattle.capture_ng.specs.Position.{Position}
use Rattle.capture_ng.specs.Reading.{IsCounted}
use Rattle.capture_ng.proofs.FindingLemmas.{answers, end_found, fault_answers, fault_found, fault_stands, end_told, found_block, found_stands, found_told, frame_found, front_of, held_of, next_past, past-block, past-start, refused_found, size_of}
use Rattle.capture_ng.proofs.finding.find_frame.Goals as goal

pub loop-head-init : goal.loop-head-init
loop-head-init g c = record { past = past-start c.args.id.number c.args.vlans (g.D.Desk.told c.args.desk.now) c.args.at.now; given = refl; shown = refl; steady = λ steady. steady; faults = refl }

pub returns-in_err-head-clause-answer : goal.returns-in_err-head-clause-answer
returns-in_err-head-clause-answer g c =
    let p = err_from_is_err_and c.from_residual.result c.from_residual.ensures.1 in
    let is = fault_found c.args.id.number c.args.vlans (g.D.Desk.told c.args.desk.now) (g.D.Desk.told c.loop-head.desk) c.args.at.now c.loop-head.at c.in_err-head.field-0.0 c.loop-head.invariant.past c.in_err-head.ensures.fault in
    rw (p.1, p.2) (fault_answers c.args.id.number c.args.vlans (g.D.Desk.told c.args.desk.now) c.args.at.now c.loop-head.at c.in_err-head.field-0.0 c.loop-head.invariant.past.taken is)

pub returns-in_err-head-clause-position : goal.returns-in_err-head-clause-position
returns-in_err-head-clause-position g c =
    let p = err_from_is_err_and c.from_residual.result c.from_residual.ensures.1 in
    let is = fault_found c.args.id.number c.args.vlans (g.D.Desk.told c.args.desk.now) (g.D.Desk.told c.loop-head.desk) c.args.at.now c.loop-head.at c.in_err-head.field-0.0 c.loop-head.invariant.past c.in_err-head.ensures.fault in
    rw (p.1, p.2) (fault_stands c.args.id.number c.args.vlans (g.D.Desk.told c.args.desk.now) c.args.at.now c.loop-head.at c.loop-head.at c.in_err-head.field-0.0 c.loop-head.invariant.past.taken refl is)

pub returns-in_err-head-clause-fault : goal.returns-in_err-head-clause-fault
returns-in_err-head-clause-fault g c =
    let p = err_from_is_err_and c.from_residual.result c.from_residual.ensures.1 in
    rw p.1 (c.loop-head.invariant.past.count, c.loop-head.invariant.past.greatest)

pub returns-in_err-frame-clause-answer : goal.returns-in_err-frame-clause-answer
returns-in_err-frame-clause-answer g c =
    let p = err_from_is_err_and c.from_residual-in_err-frame.result c.from_residual-in_err-frame.ensures.1 in
    let is = refused_found c.args.id.number c.args.vlans (g.D.Desk.told c.args.desk.now) (g.D.Desk.told c.loop-head.desk) c.args.at.now c.loop-head.at c.in-Some.head c.in-Some.octets.items c.in_err-frame.field-0.0 c.loop-head.invariant.past
    (front_of c.args.id.number (g.D.Desk.told c.loop-head.desk) c.loop-head.at c.in_ok-head.field-0 c.in-Some.head c.in-Some.octets c.in-Some.is c.in_ok-head.ensures.front) (held_of c.loop-head.at c.in_ok-head.field-0 c.in-Some.head c.in-Some.octets c.in-Some.is c.in_ok-head.ensures.held) c.in_err-frame.ensures.fault in
    rw (p.1, p.2) (fault_answers c.args.id.number c.args.vlans (g.D.Desk.told c.args.desk.now) c.args.at.now c.loop-head.at c.in_err-frame.field-0.0 c.loop-head.invariant.past.taken is)

pub returns-in_err-frame-clause-position : goal.returns-in_err-frame-clause-position
returns-in_err-frame-clause-position g c =
    let p = err_from_is_err_and c.from_residual-in_err-frame.result c.from_residual-in_err-frame.ensures.1 in
    let is = refused_found c.args.id.number c.args.vlans (g.D.Desk.told c.args.desk.now) (g.D.Desk.told c.loop-head.desk) c.args.at.now c.loop-head.at c.in-Some.head c.in-Some.octets.items c.in_err-frame.field-0.0 c.loop-head.invariant.past
    (front_of c.args.id.number (g.D.Desk.told c.loop-head.desk) c.loop-head.at c.in_ok-head.field-0 c.in-Some.head c.in-Some.octets c.in-Some.is c.in_ok-head.ensures.front) (held_of c.loop-head.at c.in_ok-head.field-0 c.in-Some.head c.in-Some.octets c.in-Some.is c.in_ok-head.ensures.held) c.in_err-frame.ensures.fault in
    rw (p.1, p.2) (fault_stands c.args.id.number c.args.vlans (g.D.Desk.told c.args.desk.now) c.args.at.now c.loop-head.at c.take_block.new.at c.in_err-frame.field-0.0 c.loop-head.invariant.past.taken c.in_err-frame.ensures.err is)

pub returns-in_err-frame-clause-fault : goal.returns-in_err-frame-clause-fault
returns-in_err-frame-clause-fault g c =
    let p = err_from_is_err_and c.from_residual-in_err-frame.result c.from_residual-in_err-frame.ensures.1 in
    rw p.1 (ap (λ (at : Position). at.count) c.in_err-frame.ensures.err ∙ c.loop-head.invariant.past.count, ap (λ (at : Position). at.greatest) c.in_err-frame.ensures.err ∙ c.loop-head.invariant.past.greatest)

pub returns-in-Some-2-clause-answer : goal.returns-in-Some-2-clause-answer
returns-in-Some-2-clause-answer g c =
    let here = found_block c.args.id.number c.args.vlans (g.D.Desk.told c.loop-head.desk) c.loop-head.at c.take_block.new.at c.in-Some.head c.in-Some.octets.items (Some c.in-Some-2.frame)
    (front_of c.args.id.number (g.D.Desk.told c.loop-head.desk) c.loop-head.at c.in_ok-head.field-0 c.in-Some.head c.in-Some.octets c.in-Some.is c.in_ok-head.ensures.front) (held_of c.loop-head.at c.in_ok-head.field-0 c.in-Some.head c.in-Some.octets c.in-Some.is c.in_ok-head.ensures.held)
    c.in_ok-frame.ensures.rules c.in_ok-frame.ensures.position (sym c.in-Some-2.is ∙ c.in_ok-frame.ensures.frame) in
    let is = frame_found c.args.id.number c.args.vlans (g.D.Desk.told c.args.desk.now) (g.D.Desk.told c.loop-head.desk) c.args.at.now c.loop-head.at c.take_block.new.at c.in-Some-2.frame c.in-Some.head.length c.loop-head.invariant.past here in
    let taken = c.loop-head.invariant.past.taken + c.in-Some.head.length in
    answers c.args.id.number c.args.vlans (g.D.Desk.told c.args.desk.now) c.args.at.now (record { answer = Ok (Some c.in-Some-2.frame); position = c.take_block.new.at; taken = taken }) (Ok (Some c.in-Some-2.frame)) refl is

pub returns-in-Some-2-clause-position : goal.returns-in-Some-2-clause-position
returns-in-Some-2-clause-position g c =
    let here = found_block c.args.id.number c.args.vlans (g.D.Desk.told c.loop-head.desk) c.loop-head.at c.take_block.new.at c.in-Some.head c.in-Some.octets.items (Some c.in-Some-2.frame)
    (front_of c.args.id.number (g.D.Desk.told c.loop-head.desk) c.loop-head.at c.in_ok-head.field-0 c.in-Some.head c.in-Some.octets c.in-Some.is c.in_ok-head.ensures.front) (held_of c.loop-head.at c.in_ok-head.field-0 c.in-Some.head c.in-Some.octets c.in-Some.is c.in_ok-head.ensures.held)
    c.in_ok-frame.ensures.rules c.in_ok-frame.ensures.position (sym c.in-Some-2.is ∙ c.in_ok-frame.ensures.frame) in
    let is = frame_found c.args.id.number c.args.vlans (g.D.Desk.told c.args.desk.now) (g.D.Desk.told c.loop-head.desk) c.args.at.now c.loop-head.at c.take_block.new.at c.in-Some-2.frame c.in-Some.head.length c.loop-head.invariant.past here in
    let taken = c.loop-head.invariant.past.taken + c.in-Some.head.length in
    found_stands c.args.id.number c.args.vlans (g.D.Desk.told c.args.desk.now) c.args.at.now (record { answer = Ok (Some c.in-Some-2.frame); position = c.take_block.new.at; taken = taken }) is

pub returns-in-Some-2-clause-told : goal.returns-in-Some-2-clause-told
returns-in-Some-2-clause-told g c =
    let here = found_block c.args.id.number c.args.vlans (g.D.Desk.told c.loop-head.desk) c.loop-head.at c.take_block.new.at c.in-Some.head c.in-Some.octets.items (Some c.in-Some-2.frame)
    (front_of c.args.id.number (g.D.Desk.told c.loop-head.desk) c.loop-head.at c.in_ok-head.field-0 c.in-Some.head c.in-Some.octets c.in-Some.is c.in_ok-head.ensures.front) (held_of c.loop-head.at c.in_ok-head.field-0 c.in-Some.head c.in-Some.octets c.in-Some.is c.in_ok-head.ensures.held)
    c.in_ok-frame.ensures.rules c.in_ok-frame.ensures.position (sym c.in-Some-2.is ∙ c.in_ok-frame.ensures.frame) in
    let is = frame_found c.args.id.number c.args.vlans (g.D.Desk.told c.args.desk.now) (g.D.Desk.told c.loop-head.desk) c.args.at.now c.loop-head.at c.take_block.new.at c.in-Some-2.frame c.in-Some.head.length c.loop-head.invariant.past here in
    let taken = c.loop-head.invariant.past.taken + c.in-Some.head.length in
    let moved = size_of c.args.id.number (g.D.Desk.told c.loop-head.desk) (g.D.Desk.told c.read_block.new.desk) c.in_ok-head.field-0 c.in-Some.head c.in-Some.octets c.in-Some.is c.in_ok-head.ensures.told in
    found_told c.args.id.number c.args.vlans (g.D.Desk.told c.args.desk.now) (g.D.Desk.told c.read_block.new.desk) c.args.at.now (record { answer = Ok (Some c.in-Some-2.frame); position = c.take_block.new.at; taken = taken }) is
    (reads_on c.args.id.number c.loop-head.invariant.past.taken c.in-Some.head.length (g.D.Desk.told c.args.desk.now) (g.D.Desk.told c.loop-head.desk) (g.D.Desk.told c.read_block.new.desk) c.loop-head.invariant.past.told moved)

pub returns-in-Some-2-clause-next : goal.returns-in-Some-2-clause-next
returns-in-Some-2-clause-next g c =
    next_past c.args.vlans c.args.at.now c.loop-head.at c.in_ok-frame.field-0 c.in-Some-2.frame c.loop-head.invariant.past.count c.loop-head.invariant.past.greatest c.in-Some-2.is c.in_ok-frame.ensures.next

pub loop-head-preserved : goal.loop-head-preserved
loop-head-preserved g c =
    let here = found_block c.args.id.number c.args.vlans (g.D.Desk.told c.loop-head.desk) c.loop-head.at c.take_block.new.at c.in-Some.head c.in-Some.octets.items (None)
    (front_of c.args.id.number (g.D.Desk.told c.loop-head.desk) c.loop-head.at c.in_ok-head.field-0 c.in-Some.head c.in-Some.octets c.in-Some.is c.in_ok-head.ensures.front) (held_of c.loop-head.at c.in_ok-head.field-0 c.in-Some.head c.in-Some.octets c.in-Some.is c.in_ok-head.ensures.held)
    c.in_ok-frame.ensures.rules c.in_ok-frame.ensures.position (sym c.in_default-2.is ∙ c.in_ok-frame.ensures.frame) in
    let stays = subst (λ (o : Option Frame). IsCounted o c.loop-head.at c.take_block.new.at) c.in_default-2.is c.in_ok-frame.ensures.count in
    record {
      past = past-block c.args.id.number c.args.vlans (g.D.Desk.told c.args.desk.now) (g.D.Desk.told c.loop-head.desk) (g.D.Desk.told c.read_block.new.desk) c.args.at.now c.loop-head.at c.take_block.new.at c.in-Some.head.length c.loop-head.invariant.past here
          (size_of c.args.id.number (g.D.Desk.told c.loop-head.desk) (g.D.Desk.told c.read_block.new.desk) c.in_ok-head.field-0 c.in-Some.head c.in-Some.octets c.in-Some.is c.in_ok-head.ensures.told) stays;
      given = c.in_ok-head.ensures.given ∙ c.loop-head.invariant.given;
      shown = c.in_ok-head.ensures.shown ∙ c.loop-head.invariant.shown;
      steady = λ steady. c.in_ok-head.ensures.steady.stays (c.loop-head.invariant.steady steady);
      faults = c.in_ok-head.ensures.same (λ is. cc) ∙ c.loop-head.invariant.faults;
    }

pub returns-clause-answer : goal.returns-clause-answer
returns-clause-answer g c =
    let is = end_found c.args.id.number c.args.vlans (g.D.Desk.told c.args.desk.now) (g.D.Desk.told c.loop-head.desk) c.args.at.now c.loop-head.at c.in_ok-head.field-0 c.loop-head.invariant.past c.in_default.is c.in_ok-head.ensures.front in
    let e = further c.loop-head.invariant.past.taken (stopped None c.loop-head.at) in
    answers c.args.id.number c.args.vlans (g.D.Desk.told c.args.desk.now) c.args.at.now e (Ok None) refl is

pub returns-clause-position : goal.returns-clause-position
returns-clause-position g c =
    let is = end_found c.args.id.number c.args.vlans (g.D.Desk.told c.args.desk.now) (g.D.Desk.told c.loop-head.desk) c.args.at.now c.loop-head.at c.in_ok-head.field-0 c.loop-head.invariant.past c.in_default.is c.in_ok-head.ensures.front in
    let e = further c.loop-head.invariant.past.taken (stopped None c.loop-head.at) in
    found_stands c.args.id.number c.args.vlans (g.D.Desk.told c.args.desk.now) c.args.at.now e is

pub returns-clause-told : goal.returns-clause-told
returns-clause-told g c =
    let is = end_found c.args.id.number c.args.vlans (g.D.Desk.told c.args.desk.now) (g.D.Desk.told c.loop-head.desk) c.args.at.now c.loop-head.at c.in_ok-head.field-0 c.loop-head.invariant.past c.in_default.is c.in_ok-head.ensures.front in
    let e = further c.loop-head.invariant.past.taken (stopped None c.loop-head.at) in
    end_told c.args.id.number c.args.vlans (g.D.Desk.told c.args.desk.now) (g.D.Desk.told c.loop-head.desk) (g.D.Desk.told c.read_block.new.desk) c.args.at.now c.loop-head.at c.in_ok-head.field-0 c.loop-head.invariant.past c.in_default.is c.in_ok-head.ensures.told is

pub returns-clause-count : goal.returns-clause-count
returns-clause-count g c =
    (c.loop-head.invariant.past.count, c.loop-head.invariant.past.greatest)
