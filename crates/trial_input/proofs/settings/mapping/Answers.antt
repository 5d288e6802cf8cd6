use Rattle.std.proofs.Common.{refl, ap, ◌∙◌}
use Rattle.ip_headers.specs.declared.addr.Addr.TheVariants.{V4}
use Rattle.mapping_records.proofs.EqualValue.{equal_eid, equal_prefix, equal_record}
use Rattle.trial_input.proofs.settings.mapping.Goals as goal

pub returns : goal.returns
returns c =
    equal_record _ _ refl refl refl refl (equal_eid _ _ refl (equal_prefix _ _ (ap V4 c.prefix_addr.ensures.addr) refl)) (c.from_vec.ensures ∙ c.in_ok-from_slice.ensures.items)
