use Rattle.std.proofs.Common.{◌∙◌, ap, sym}
use Rattle.capture_io.specs.Frame.{Frame}
use Rattle.forwarders.proofs.FrameLemmas.{closing-last}
use Rattle.forwarders.proofs.round_begun.closing_moment.Goals as goal

pub returns : goal.returns
returns c =
    let last : Frame = c.index-frames-frames.result in
    ap (λ (f : Frame). f.moment) (c.last.view_is ∙ c.index-frames-frames.is) ∙ sym (closing-last c.args.frames.now last c.requires)
