use Rattle.mapping_records.proofs.record_writing.write_locator.Goals as goal

pub returns-in-V6 : goal.returns-in-V6
returns-in-V6 c = rw (c.in-V6.is) (rw (c.locator_head-in-V6.ensures, c.to_be_bytes-in-V6.ensures) at c.append_both-in-V6.ensures.ok)
