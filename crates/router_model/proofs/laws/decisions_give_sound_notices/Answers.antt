use Rattle.router_model.proofs.NoticeLemmas.{notices-sound}
use Rattle.router_model.proofs.laws.decisions_give_sound_notices.Goals as goal

pub returns : goal.returns
returns c = notices-sound
