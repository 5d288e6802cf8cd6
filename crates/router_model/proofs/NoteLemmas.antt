-- A notice is noted by a table as by the journal.
use Rattle.std.proofs.Common.{◌≡◌, ℕ, suc, ◌^◌, ◌%◌, ◌<◌, ◌&&◌, nat_lt, Bool, true, false, Option, Some, None, is_some, refl, sym, ap, subst, arith, mod-lt}
use Rattle.std.proofs.lemmas.Bool.{eq-eqb}
use Rattle.std.proofs.lemmas.Bool.Decides.{nat_tests}
use Rattle.std.proofs.lemmas.Nat.{pow_pos}
use Rattle.ip_headers.specs.declared.addr.Addr.{Addr}
use Rattle.lisp_settings.specs.Instances.{limits_in}
use Rattle.router_log.specs.declared.emit.Emit.TheVariants as emit
use Rattle.router_log.specs.declared.entry.Entry.TheVariants as entry
use Rattle.router_log.specs.declared.notice.Notice.TheVariants as notice
use Rattle.router_model.specs.Changes.{entered, journal as of_journal, may_ask, next_nonce}
use Rattle.router_model.specs.Lifting.{Goes, NotesLift, tabled}
use Rattle.router_model.specs.Mappings.{Held, exact}
use Rattle.router_model.specs.Note.{is_echo, is_learned, is_missing, is_news, noted, solicited}
use Rattle.router_model.specs.Parts.{table}
use Rattle.router_model.specs.Site.{ours}
use Rattle.router_model.specs.Standing.{standing_with}
use Rattle.router_model.specs.View.{view}
use Rattle.router_model.proofs.LiftLemmas.{goes-asked, goes-emitted, goes-entered, goes-if, may_ask-room, nonce-next, nonce-same}
use Rattle.router_model.proofs.PartsLemmas.{and_both}

pub news-some : (rloc : Addr) (bits width : ℕ) (o : Option Held) → is_news rloc bits width o ≡ true → is_some o ≡ true
news-some rloc bits width None is = cc
news-some rloc bits width (Some held) is = refl

echo-some : (nonce : ℕ) (o : Option ℕ) → is_echo nonce o ≡ true → is_some o ≡ true
echo-some nonce None is = cc
echo-some nonce (Some asked) is = refl

both : (a b : Bool) → a ≡ true → b ≡ true → (a && b) ≡ true
both a b p q = rw (p, q) refl

short : (n : ℕ) → nat_lt (n % 2 ^ 24) (2 ^ 24) ≡ true
short n = let less : n % 2 ^ 24 < 2 ^ 24 = mod-lt n (pow_pos 24) in grind (arith, nat_tests)

pub notes-lift : NotesLift
unfolding noted
notes-lift settings locators steps m more (notice.Ask eid source) before sound ready =
    goes-if settings m more before (λ v. is_missing (standing_with settings locators steps) (limits_in settings) v eid) _ _ ready
    (λ is. goes-asked settings m more before eid source false ready (may_ask-room (standing_with settings locators steps) m (limits_in settings) (view before.after m) eid (and_both _ _ is).0))
notes-lift settings locators steps m more (notice.Refresh eid) before sound ready =
    goes-if settings m more before (λ v. is_learned (exact v.mappings eid) && may_ask (standing_with settings locators steps) (limits_in settings) v eid) _ _ ready
    (λ is. goes-asked settings m more before eid None false ready (may_ask-room (standing_with settings locators steps) m (limits_in settings) (view before.after m) eid (and_both _ _ is).1))
notes-lift settings locators steps m more (notice.Bits eid rloc bits width) before sound ready =
    goes-if settings m more before (λ v. is_news rloc bits width (exact v.mappings eid)) _ _ ready
    (λ is. goes-entered settings m more before (entry.Bits m eid bits width) ready refl refl (both _ _ (news-some rloc bits width _ is) sound) refl)
notes-lift settings locators steps m more (notice.EchoWanted rloc nonce) before sound ready =
    goes-if settings m more before (λ v. v.may_want rloc nonce) _ _ ready
    (λ is. goes-entered settings m more before (entry.EchoWanted m rloc nonce) ready refl refl (both _ _ is sound) refl)
notes-lift settings locators steps m more (notice.EchoHeard rloc nonce) before sound ready =
    goes-if settings m more before (λ v. is_echo nonce (v.echo_on rloc)) _ _ ready
    (λ is. goes-entered settings m more before (entry.EchoHeard m rloc) ready refl refl (echo-some nonce _ is) refl)
notes-lift settings locators steps m more (notice.DataFrom rloc) before sound ready =
    goes-if settings m more before (λ v. v.data_due rloc) _ _ ready
    (λ is. goes-entered settings m more before (entry.DataFrom m rloc) ready refl refl is refl)
notes-lift settings locators steps m more (notice.Solicit rloc eid) before sound ready =
    goes-if settings m more before (λ v. is_some (ours locators rloc) && v.may_solicit rloc eid) _ _ ready
    (λ is. subst (λ n. Goes settings m more (solicited table settings m n rloc eid (tabled settings before)) (solicited of_journal settings m (next_nonce of_journal settings m before) rloc eid before))
    (sym (nonce-same settings m (suc more) before ready))
    (goes-emitted settings m more (emit.Solicit rloc eid (next_nonce of_journal settings m before)) _ _
    (goes-entered settings m more before (entry.Solicited m rloc eid (next_nonce of_journal settings m before)) ready refl refl (and_both _ _ is).1 (eq-eqb _ _ (nonce-next settings m before)))))
notes-lift settings locators steps m more (notice.EchoDue rloc) before sound ready =
    goes-if settings m more before (λ v. settings.echo && v.may_start rloc) _ _ ready
    (λ is. subst (λ n. Goes settings m more (entered table settings m (entry.EchoStarted m rloc (n % 2 ^ 24)) (tabled settings before)) (entered of_journal settings m (entry.EchoStarted m rloc (next_nonce of_journal settings m before % 2 ^ 24)) before))
    (sym (nonce-same settings m (suc more) before ready))
    (goes-entered settings m more before (entry.EchoStarted m rloc (next_nonce of_journal settings m before % 2 ^ 24)) ready refl refl (both _ _ (and_both _ _ is).1 (short (next_nonce of_journal settings m before))) (eq-eqb _ _ (ap (λ n. n % 2 ^ 24) (nonce-next settings m before)))))
