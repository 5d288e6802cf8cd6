-- What a step may take, and what it took, call by call.
use Rattle.std.proofs.Common.{◌≡◌, ℕ, ◌+◌, ◌^◌, ◌≤◌, List, length, sym, ap, subst, ◌∙◌, arith}
use Rattle.std.specs.List.{All}
use Rattle.std.proofs.lemmas.List.Elements.{All-nil}
use Rattle.lisp_settings.specs.declared.settings.Settings.{Settings}
use Rattle.router_log.specs.declared.emit.Emit.{Emit}
use Rattle.router_model.specs.Parts.{Parts}
use Rattle.router_core.specs.Sendable.{IsSendable}
use Rattle.router_core.specs.Steps.{AreSent, HasTaken, IsBegun, MayEnter, MayStep, MayTake}
use Rattle.router_core.specs.declared.step.Step.{Step}

-- so many, in a step that begins
pub enter-few : {m : ℕ} {p q : Parts} (most : ℕ) → most ≤ 2 ^ 61 → MayStep m p → q ≡ p → MayEnter most m q
enter-few {m = m} most few may same = subst (λ (q : Parts). MayEnter most m q) (sym same) (record { later = may.later; count = omega (arith, few, may.count) })

pub may-begin : {most m : ℕ} {site : Settings} {p : Parts} {s : Step} → IsBegun most site m s → MayEnter most m p → MayTake most p s
may-begin {most = most} {p = p} {s = s} begun may = record {
  enter = subst (λ (m : ℕ). MayEnter most m p) (sym begun.moment) may;
  entries = begun.entries;
  emits = begun.emits;
  sendable = subst (All (IsSendable s.site.now)) (sym begun.no_emits) (All-nil (IsSendable s.site.now));
}

-- fewer than it may
pub may-less : {most : ℕ} {p : Parts} {s : Step} (k : ℕ) → k ≤ most → MayTake most p s → MayTake k p s
may-less k less may = record {
  enter = record { later = may.enter.later; count = omega (arith, less, may.enter.count) };
  entries = omega (arith, less, may.entries);
  emits = omega (arith, less, may.emits);
  sendable = may.sendable;
}

-- behind what it took
pub may-behind : {most n : ℕ} {p q : Parts} {s t : Step} (k : ℕ) → n + k ≤ most → MayTake most p s → HasTaken n p s q t → MayTake k q t
may-behind {q = q} k less may taken = record {
  enter = record { later = subst (λ (m : ℕ). q.now ≤ m) (sym taken.moment) taken.entered.now; count = omega (arith, less, may.enter.count, taken.entered.count) };
  entries = omega (arith, less, may.entries, taken.entries.most_more, taken.entries.capacity);
  emits = omega (arith, less, may.emits, taken.emits.most_more, taken.emits.capacity);
  sendable = taken.sendable;
}

-- one after the other
pub taken-both : {a b : ℕ} {p q r : Parts} {s t u : Step} (most : ℕ) → a + b ≤ most → HasTaken a p s q t → HasTaken b q t r u → HasTaken most p s r u
taken-both {r = r} most less one two = record {
  site = two.site ∙ one.site;
  moment = two.moment ∙ one.moment;
  entered = record {
    now = subst (λ (m : ℕ). r.now ≤ m) one.moment two.entered.now;
    count = omega (arith, less, one.entered.count, two.entered.count);
    own = two.entered.own ∙ one.entered.own;
    steps = two.entered.steps ∙ one.entered.steps;
  };
  entries = record {
    more = omega (arith, one.entries.more, two.entries.more);
    most_more = omega (arith, less, one.entries.most_more, two.entries.most_more);
    capacity = two.entries.capacity ∙ one.entries.capacity;
  };
  emits = record {
    more = omega (arith, one.emits.more, two.emits.more);
    most_more = omega (arith, less, one.emits.most_more, two.emits.most_more);
    capacity = two.emits.capacity ∙ one.emits.capacity;
  };
  sendable = two.sendable;
}

-- no more than so many
pub taken-less : {n : ℕ} {p q : Parts} {s t : Step} (most : ℕ) → n ≤ most → HasTaken n p s q t → HasTaken most p s q t
taken-less most less taken = record {
  site = taken.site;
  moment = taken.moment;
  entered = record { now = taken.entered.now; count = omega (arith, less, taken.entered.count); own = taken.entered.own; steps = taken.entered.steps };
  entries = record { more = taken.entries.more; most_more = omega (arith, less, taken.entries.most_more); capacity = taken.entries.capacity };
  emits = record { more = taken.emits.more; most_more = omega (arith, less, taken.emits.most_more); capacity = taken.emits.capacity };
  sendable = taken.sendable;
}

-- a fact of the site and the moment still holds
pub still-at : {n : ℕ} {p q : Parts} {s t : Step} (P : Settings → ℕ → Type 0) → HasTaken n p s q t → P s.site.now s.m → P t.site.now t.m
still-at {s = s} {t = t} P taken holds = subst (P t.site.now) (sym taken.moment) (subst (λ (site : Settings). P site s.m) (sym taken.site) holds)

-- ### from its beginning to its end

-- the packet of each emit can be made
pub begun-sent : {most n m : ℕ} {site : Settings} {p q : Parts} {s t : Step} (emits : List Emit) → IsBegun most site m s → HasTaken n p s q t → emits ≡ t.emits.items → AreSent site n emits
begun-sent {site = site} {s = s} {t = t} emits begun taken same = record {
  sendable = subst (All (IsSendable site)) (sym same) (subst (λ (site : Settings). All (IsSendable site) t.emits.items) (taken.site ∙ begun.stands) taken.sendable);
  few = omega (arith, length_of same, length_of begun.no_emits, s.emits.ok.0, t.emits.ok.0, taken.emits.most_more);
}
  where
    length_of : {a b : List Emit} → a ≡ b → length a ≡ length b
    length_of is = ap (λ (l : List Emit). length l) is
