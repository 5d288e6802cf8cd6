use Rattle.mapping_records.proofs.EidLemmas.{one_eid}
use Rattle.mapping_records.proofs.laws.one_eid_is_spelled.Goals as goal

pub returns-clause-one : goal.returns-clause-one
returns-clause-one c octets a b s t = one_eid octets a b s t
