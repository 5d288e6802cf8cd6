use Rattle.std.proofs.Common.{◌≡◌, eqb, false}
use Rattle.std.proofs.lemmas.Bool.{ne_eqb}
use Rattle.mapping_records.proofs.eid_writing.write_v4.Goals as goal

pub returns-else-iid-eq0-clause-ok : goal.returns-else-iid-eq0-clause-ok
returns-else-iid-eq0-clause-ok c =
    let other : eqb c.args.iid 0 ≡ false = ne_eqb c.args.iid 0 c.if-iid-eq0.false in
    rw other (rw (c.lcaf.ensures, c.to_be_bytes-octets.ensures) at c.append_both-else-iid-eq0.ensures.ok)
