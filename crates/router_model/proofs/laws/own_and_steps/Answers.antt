use Rattle.router_model.proofs.UpsLemmas.{own-tells}
use Rattle.router_model.proofs.StandingLemmas.{course-stands, versions-step}
use Rattle.router_model.proofs.laws.own_and_steps.Goals as goal

pub returns-clause-versions : goal.returns-clause-versions
returns-clause-versions c = versions-step

pub returns-clause-own : goal.returns-clause-own
returns-clause-own c = own-tells

pub returns-clause-course : goal.returns-clause-course
returns-clause-course c = course-stands
