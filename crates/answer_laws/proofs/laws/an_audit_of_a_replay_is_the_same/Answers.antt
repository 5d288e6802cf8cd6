use Rattle.answer_laws.specs.Audited.{frames_in}
use Rattle.answer_laws.proofs.SameLemmas.{same-again}
use Rattle.answer_laws.proofs.laws.an_audit_of_a_replay_is_the_same.Goals as goal

pub returns : goal.returns
returns c = λ replay audit before after own input made r a may none.
    same-again replay audit before after own input made r a may.no_echo none
    (c.sent_packets_are_read.ensures own (frames_in input) may.lawful may.read may.later none)
    (c.lifted_nonces_make_it_the_same.ensures own (frames_in input) a.seed a.nonces may none)
