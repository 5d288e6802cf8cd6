-- The order in which locators are probed.
use Rattle.std.specs.Prelude.{ℕ, suc, ◌==◌, ◌||◌, ◌&&◌, nat_lt, not, Bool, true, false, List, [], ◌∷◌, Option, Some, None, if◌then◌else◌}
use Rattle.std.specs.Ordering.{is_lt}
use Rattle.ip_headers.specs.declared.addr.Addr.{Addr}
use Rattle.mapping_records.specs.Eids.{same_address}
use Rattle.mapping_records.specs.Orders.{addr_order}
use Rattle.router_log.specs.Moments.{younger}
use Rattle.locator_state.specs.Limits.{rest_seconds}
use Rattle.locator_state.specs.declared.target.Target.{Target}

-- whether the last probe of a locator is so many seconds old, or none counts
abbrev pub has_rested : ℕ → Option ℕ → Bool
has_rested now None = true
has_rested now (Some moment) = not (younger now rest_seconds moment)

-- the turn of a locator: those without a probe come first, the others by the moment of the last one
abbrev pub turn_of : Option ℕ → ℕ
turn_of None = 0
turn_of (Some moment) = suc moment

-- a locator goes before another: its turn comes first, or it has the lesser address
abbrev pub goes_before : Target → Target → Bool
goes_before a b =
    nat_lt (turn_of a.last) (turn_of b.last)
    || ((turn_of a.last == turn_of b.last) && is_lt (addr_order a.rloc b.rloc))

-- locators in this order, with one more; a locator that is there already keeps its EID
abbrev pub with_target : Target → List Target → List Target
with_target target [] = target ∷ []
with_target target (first ∷ others) =
    if same_address target.rloc first.rloc then first ∷ others
    else if goes_before target first then target ∷ first ∷ others else first ∷ with_target target others

-- whether the locator stands at a place
abbrev pub is_at : Addr → Option Target → Bool
is_at rloc None = false
is_at rloc (Some target) = same_address rloc target.rloc
