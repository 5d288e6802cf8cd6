-- The line of a frame in a report.
use Rattle.std.specs.Prelude.{ℕ, ◌/◌, ◌%◌, List, [], ◌∷◌, ◌++◌, codes}
use Rattle.std.specs.Fmt.{decimal}
use Rattle.router_log.specs.Numbers.{address_text, fixed_decimal, named}
use Rattle.router_log.specs.Refusals.{refused_text}
use Rattle.router_log.specs.declared.verdict.Done.{Done}
use Rattle.router_log.specs.declared.verdict.Done.TheVariants as did
use Rattle.router_log.specs.declared.verdict.Reason.{Reason}
use Rattle.router_log.specs.declared.verdict.Reason.TheVariants as reason
use Rattle.router_log.specs.declared.verdict.Verdict.{Verdict}
use Rattle.router_log.specs.declared.verdict.Verdict.TheVariants as verdict

-- the text of a reason to drop a frame: its number and its word
abbrev pub reason_text : Reason → List ℕ
reason_text (reason.Refused refused) = codes "1 refused " ++ refused_text refused
reason_text reason.NotTunnel = codes "2 not-tunnel"
reason_text reason.Fragment = codes "3 fragment"
reason_text reason.Encrypted = codes "4 encrypted"
reason_text reason.NotOurs = codes "5 not-ours"
reason_text reason.DestVersionNewer = codes "6 dest-version-newer"
reason_text reason.SourceVersionOlder = codes "7 source-version-older"
reason_text reason.CongestionMark = codes "8 congestion-mark"
reason_text reason.TtlExpired = codes "9 ttl-expired"
reason_text reason.NoAttachment = codes "10 no-attachment"
reason_text reason.Multicast = codes "11 multicast"
reason_text reason.NotSite = codes "12 not-site"
reason_text reason.Miss = codes "13 miss"
reason_text reason.NoAction = codes "14 no-action"
reason_text reason.SendRequest = codes "15 send-request"
reason_text reason.DropNoReason = codes "16 drop-no-reason"
reason_text reason.DropPolicy = codes "17 drop-policy"
reason_text reason.DropAuth = codes "18 drop-auth"
reason_text reason.NoLocator = codes "19 no-locator"
reason_text reason.TooBig = codes "20 too-big"
reason_text reason.Unsolicited = codes "21 unsolicited"
reason_text reason.Unfit = codes "22 unfit"
reason_text reason.Foreign = codes "23 foreign"
reason_text reason.NoReplyPath = codes "24 no-reply-path"
reason_text reason.Unexpected = codes "25 unexpected"

-- the text of the effect of a control message
abbrev pub done_text : Done → List ℕ
done_text (did.Answered records) = named (codes "request answered=") records
done_text (did.Solicited asked) = named (codes "solicit asked=") asked
done_text (did.Learned taken passed) =
    named (codes "reply learned=") taken ++ named (codes " passed=") passed
done_text did.ProbeReply = codes "probe-reply"

-- the text of a verdict
abbrev pub verdict_text : Verdict → List ℕ
verdict_text verdict.Own = codes "own"
verdict_text verdict.Local = codes "local"
verdict_text (verdict.Encapsulated from to port packet) =
    codes "encapsulated "
    ++ (address_text from ++ (32 ∷ (address_text to ++ (32 ∷ decimal port))))
verdict_text (verdict.Delivered iid packet) = named (codes "delivered ") iid
verdict_text (verdict.Native packet) = codes "native"
verdict_text (verdict.Control done) = codes "control " ++ done_text done
verdict_text (verdict.Drop why) = codes "drop " ++ reason_text why

-- the text of a moment in nanoseconds: a space, the seconds, a point, and nine digits
abbrev pub moment_text : ℕ → List ℕ
moment_text moment =
    32 ∷ (decimal (moment / 1000000000) ++ (46 ∷ fixed_decimal 9 (moment % 1000000000)))

-- the text of the length of the journal
abbrev pub length_text : ℕ → List ℕ
length_text n = named (codes " n=") n ++ 32 ∷ []

-- the line of a frame: its number, its moment, the length of the journal by which it was decided, and its verdict
abbrev pub frame_line : ℕ → ℕ → ℕ → Verdict → List ℕ
frame_line number moment n v =
    decimal number ++ (moment_text moment ++ (length_text n ++ (verdict_text v ++ 10 ∷ [])))
