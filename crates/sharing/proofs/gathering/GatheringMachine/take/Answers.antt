use Rattle.std.proofs.Common.{◌≡◌, ◌∙◌, ap, length, subst}
use Rattle.capture_io.specs.Frame.{Frame}
use Rattle.router_model.specs.Lifting.{AreOctets}
use Rattle.sharing.specs.Gathering.{gathering_of}
use Rattle.sharing.proofs.RoundLemmas.{ready-frame}
use Rattle.sharing.proofs.gathering.GatheringMachine.take.Goals as goal

pub returns-clause-ready : goal.returns-clause-ready
returns-clause-ready c =
    let router = c.args.self.now in
    let frame = c.args.frame in
    let g = gathering_of router.settings.now router.published.batches router.size router.previous router.frames.items in
    let asks = c.requires in
    let by = asks.ready in
    let octets = subst AreOctets (c.as_slice.ensures ∙ ap (λ (f : Frame). f.octets) c.frame.view_is) c.fit.ensures in
    let size : c.len.result ≡ length frame.octets = c.len.ensures ∙ ap (λ (f : Frame). length f.octets) c.frame.view_is in
    rw (c.in_ok-push.ensures.items, size)
    (ready-frame router.settings.now router.table.parts router.published g router.octets by.progress.frames c.args._output.now.written by.progress.moment frame
    by.ready asks.not_full by.next asks.most by.later asks.moment asks.size octets)
