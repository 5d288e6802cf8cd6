use Rattle.mapping_records.proofs.eid_writing.write_eid.Goals as goal

pub returns-in-V6-clause-ok : goal.returns-in-V6-clause-ok
returns-in-V6-clause-ok c = rw c.in-V6.is c.write_v6.ensures.ok
