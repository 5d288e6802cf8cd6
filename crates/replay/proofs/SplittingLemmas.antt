-- Halves of a frame that is split as it is read.
use Rattle.std.proofs.Common.{◌≡◌, ℕ, Option, Some}
use Rattle.std.specs.Option.{IfSome}
use Rattle.capture_io.specs.Frame.{Frame}
use Rattle.split_v4.specs.Halves.{AreKept, AreNoLonger, HaveOctets}
use Rattle.replay.specs.Splitting.{IsPartOf, under}

-- they are parts of it
pub halves-parts : (f first second : Frame) (both : Option (Frame × Frame)) → both ≡ Some (first, second)
    → IfSome both (AreKept f) → IfSome both (AreNoLonger f) → IfSome both HaveOctets → IsPartOf f first × IsPartOf f second
halves-parts f first second both is kept size octets =
    let same = rw is at kept in
    let sizes = rw is at size in
    let all = rw is at octets in
    (record { moment = same.0.1.0; size = sizes.0; octets = all.0 }, record { moment = same.1.1.0; size = sizes.1; octets = all.1 })

-- under whatever number
pub part-under : (f part : Frame) (n : ℕ) → IsPartOf f part → IsPartOf f (under n part)
part-under f part n is = record { moment = is.moment; size = is.size; octets = is.octets }
