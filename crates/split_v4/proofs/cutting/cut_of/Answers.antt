use Rattle.std.proofs.Common.{rules, ◌∙◌, sym}
use Rattle.split_v4.proofs.CutLemmas.{cut-far, cut-is}
use Rattle.split_v4.proofs.cutting.cut_of.Goals as goal

pub returns-then-header-eighths-gt-MOST_OFFSET : goal.returns-then-header-eighths-gt-MOST_OFFSET
returns-then-header-eighths-gt-MOST_OFFSET c =
    cut-far c.args.most c.args.packet.now.octets.now c.in-V4.header (sym c.in-V4.is ∙ c.args.packet.now.spells) (search rules)

pub returns : goal.returns
returns c =
    rw (c.from-header_len.ensures, c.padding.ensures.value)
    (cut-is c.args.most c.args.packet.now.octets.now c.in-V4.header c.in_ok-copied.copied (sym c.in-V4.is ∙ c.args.packet.now.spells) (search rules) (search rules) (search rules) (search rules))
