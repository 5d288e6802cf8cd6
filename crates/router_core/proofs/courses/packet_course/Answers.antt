use Rattle.std.proofs.Common.{◌∙◌, List, sym, ap}
use Rattle.lisp_settings.specs.declared.settings.Attachment.{Attachment}
use Rattle.router_model.specs.Site.{instance_of}
use Rattle.router_core.proofs.SiteLemmas.{instance_of-below}
use Rattle.router_core.proofs.courses.packet_course.Goals as goal

pub returns-in-Some-clause-instance : goal.returns-in-Some-clause-instance
returns-in-Some-clause-instance c =
    instance_of-below c.args.settings.now.attachments c.args.vlan c.in-Some.iid c.requires.lawful.attachments
    (sym (c.in-Some.ensures ∙ ap (λ (attachments : List Attachment). instance_of attachments c.args.vlan) c.as_slice.ensures))
