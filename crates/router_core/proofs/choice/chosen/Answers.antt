use Rattle.std.proofs.Common.{◌≡◌, ◌∙◌, ◌<◌, ◌+◌, ℕ, min, List, length, take, Option, Some, slice_get, option_and_then, option_map, ap, sym, arith}
use Rattle.std.proofs.lemmas.List.{length-take}
use Rattle.std.proofs.lemmas.Option.{slice_get-get_or}
use Rattle.ip_headers.specs.declared.addr.Addr.{Addr}
use Rattle.locator_choice.specs.Choice as choice
use Rattle.locator_choice.specs.declared.choice.Candidate.{Candidate}
use Rattle.mapping_records.specs.declared.record.Locator.{Locator}
use Rattle.router_model.specs.Cache.{known_up}
use Rattle.router_model.specs.Choice.{candidates, chosen}
use Rattle.router_model.specs.Mappings.{status_of}
use Rattle.router_core.specs.Table.{seen}
use Rattle.router_core.proofs.choice.chosen.Goals as goal

zero-plus : (n : ℕ) → n ≡ 0 + n
zero-plus n = omega arith

less-taken : (i n k m : ℕ) → i < k → k ≡ min n m → i < n
less-taken i n k m less is = omega (arith, less, is)

pub returns : goal.returns
returns c =
    let settings = c.args.view.now.site in
    let v = seen c.args.view.now in
    let hash = c.args.hash in
    let index = c.in_ok-index.index in
    let slice : List Locator = c.as_slice-locators.result.now in
    let places : List Candidate = c.fill.new.places in
    let by : List Locator → List Candidate = λ l. candidates settings v (status_of (known_up c.args.mapping.now) 0 l) l in
    let addr : Locator → Addr = λ locator. locator.addr in
    let filled : take (length slice) places ≡ by slice = ap (λ (n : ℕ). take n places) (zero-plus (length slice)) ∙ c.fill.ensures.places in
    let found : Some index ≡ choice.chosen (by slice) hash = c.in_ok-index.ensures.chosen ∙ ap (λ (l : List Candidate). choice.chosen l hash) filled in
    let below : index < length slice = less-taken index (length slice) (length (take (length slice) places)) (length places) c.in_ok-index.ensures.within (length-take (length slice) places) in
    sym (ap (option_map addr) (slice_get-get_or slice index _ below))
    ∙ ap (λ (o : Option ℕ). option_map addr (option_and_then (slice_get slice) o)) found
    ∙ ap (λ (l : List Locator). chosen settings v (status_of (known_up c.args.mapping.now) 0 l) l hash) c.as_slice-locators.ensures
