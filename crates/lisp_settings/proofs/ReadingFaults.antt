-- The first fault of the top table, where it stands among the choices or the lists.
use Rattle.std.proofs.Common.{◌≡◌, ◌∙◌, ap, false, replicate, codes, ℕ, Bool, List, Option, Result, Ok, Err}
use Rattle.toml.specs.Data.{Members, as_bool}
use Rattle.ip_headers.specs.declared.addr.Addr.{Addr}
use Rattle.lisp_settings.specs.Fields.{if_ok, only_keys, optional}
use Rattle.lisp_settings.specs.Limits.{most_nonces}
use Rattle.lisp_settings.specs.Lists.{nonces_at}
use Rattle.lisp_settings.specs.Resolver.{resolver_in}
use Rattle.lisp_settings.specs.Settings.{choices_then, lists_then, settings_in, top_keys, ttl_in}
use Rattle.lisp_settings.specs.Values.{seed}
use Rattle.lisp_settings.specs.declared.fault.SettingsFault.{SettingsFault}

-- what comes next, behind a step without a fault
behind : {A B : Type 0} (next : A → Result B SettingsFault) (r : Result A SettingsFault) (a : A) → r ≡ Ok a → if_ok next r ≡ next a
behind next r a is = ap (if_ok next) is

-- a fault among the choices
pub choices_fail : (top known : Members) (s nonces : List ℕ) (e : SettingsFault) → only_keys top_keys top ≡ Ok known → optional (codes "seed") seed (replicate 32 0) top ≡ Ok s → nonces_at (codes "nonces") most_nonces top ≡ Ok nonces → ((next : _) → choices_then next top ≡ Err e) → settings_in top ≡ Err e
choices_fail top known s nonces e keys is_seed are_nonces fails =
    behind _ _ known keys ∙ (behind _ _ s is_seed ∙ (behind _ _ nonces are_nonces ∙ fails _))

-- a fault among the lists
pub lists_fail : (top known : Members) (s nonces : List ℕ) (resolver : Option Addr) (ttl : ℕ) (probe echo : Bool) (e : SettingsFault) → only_keys top_keys top ≡ Ok known → optional (codes "seed") seed (replicate 32 0) top ≡ Ok s → nonces_at (codes "nonces") most_nonces top ≡ Ok nonces → resolver_in top ≡ Ok resolver → ttl_in top ≡ Ok ttl → optional (codes "probe") as_bool false top ≡ Ok probe → optional (codes "echo") as_bool false top ≡ Ok echo → ((next : _) → lists_then next top ≡ Err e) → settings_in top ≡ Err e
lists_fail top known s nonces resolver ttl probe echo e keys is_seed are_nonces is_resolver is_ttl is_probe is_echo fails =
    behind _ _ known keys ∙ (behind _ _ s is_seed ∙ (behind _ _ nonces are_nonces
    ∙ (behind _ _ resolver is_resolver ∙ (behind _ _ ttl is_ttl ∙ (behind _ _ probe is_probe
    ∙ (behind _ _ echo is_echo ∙ fails _))))))
