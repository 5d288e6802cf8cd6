use Rattle.auditing.proofs.RecordLemmas.{others-records, packet-records}
use Rattle.auditing.proofs.records.split_record.Goals as goal

pub returns-clause-packet : goal.returns-clause-packet
returns-clause-packet c = λ packet others is.
    rw (c.split_at-2.ensures.front, c.min.ensures, c.split_at.ensures.back) (packet-records c.args.records.now c.little_32-size.result packet others is c.requires.short c.little_32-size.ensures)

pub returns-clause-others : goal.returns-clause-others
returns-clause-others c = λ packet others is.
    rw (c.split_at-2.ensures.back, c.min.ensures, c.split_at.ensures.back) (others-records c.args.records.now c.little_32-size.result packet others is c.requires.short c.little_32-size.ensures)
