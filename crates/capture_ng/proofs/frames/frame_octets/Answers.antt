use Rattle.std.proofs.Common.{◌≡◌, ◌≤◌, ◌<◌, ◌+◌, List, ℕ, All, length, subst}
use Rattle.std.proofs.lemmas.Result.{IfOk-weaker}
use Rattle.capture_ng.specs.Packets.{tagged}
use Rattle.capture_ng.proofs.FrameLemmas.{tagged_most, tagged_octets}
use Rattle.capture_ng.proofs.frames.frame_octets.Goals as goal

pub returns-then-gets_tag-clause-octets : goal.returns-then-gets_tag-clause-octets
returns-then-gets_tag-clause-octets c =
    let kept = c.as_slice-octets.result.now in
    IfOk-weaker c.tagged.result (λ (o : List ℕ). o ≡ tagged c.args.number kept) (λ (o : List ℕ). All (λ octet. octet < 256) o)
    (λ o is. tagged_octets c.args.number kept o c.gets_tag.ensures.octets is) c.tagged.ensures

pub returns-then-gets_tag-clause-most : goal.returns-then-gets_tag-clause-most
returns-then-gets_tag-clause-most c =
    let kept = c.as_slice-octets.result.now in
    IfOk-weaker c.tagged.result (λ (o : List ℕ). o ≡ tagged c.args.number kept) (λ (o : List ℕ). length o ≤ length c.args.kept.items + 4)
    (λ o is. subst (λ (l : List ℕ). length o ≤ length l + 4) c.as_slice-octets.ensures.value (tagged_most c.args.number kept o is)) c.tagged.ensures
