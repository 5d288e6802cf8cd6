use Rattle.router_model.specs.Changes.{journal, unchanged}
use Rattle.lisp_settings.specs.declared.settings.Settings.{Settings}
use Rattle.router_model.specs.Course.{course_of}
use Rattle.router_model.specs.Standing.{standing}
use Rattle.router_model.proofs.DropLemmas.{course-still}
use Rattle.router_model.proofs.laws.dropped_messages_change_nothing.Goals as goal

pub returns : goal.returns
returns c settings before m frame =
    let stands : Settings = standing settings before in
    course-still journal stands m (course_of stands frame) (unchanged before)
