-- Listed nonces: how many are read, and arrays that read as them.
use Rattle.std.proofs.Common.{replicate, ◌≡◌, ℕ, suc, ◌+◌, ◌<◌, ◌≤◌, false, List, [], ◌∷◌, ◌++◌, length, get_or, take, Some, Ok, IfOk, String, Global, string_bytes, codes, refl, ap, ◌∙◌, arith, length-append}
use Rattle.std.proofs.lemmas.List.{take_more}
use Rattle.std.proofs.lemmas.Result.{IfOk-weaker}
use Rattle.toml.proofs.Views.{items_view-push, view-String}
use Rattle.toml.specs.Data.{string, Items, no_items, item, Members, as_array, as_bool, get_member, push_item}
use Rattle.toml.specs.View.{items_view}
use Rattle.toml.specs.declared.value.Value.{Value, String as Text}
use Rattle.lisp_settings.specs.Instances.{only_within}
use Rattle.lisp_settings.specs.Limits.{default_minutes, most_nonces}
use Rattle.lisp_settings.specs.Fields.{only_keys, optional, taken, value_or}
use Rattle.lisp_settings.specs.Hex.{hex_number}
use Rattle.lisp_settings.specs.Lists.{count, each_nonce, few_items, nonces_at}
use Rattle.lisp_settings.specs.Places.{item_key}
use Rattle.lisp_settings.specs.Resolver.{only_reachable, resolver_in}
use Rattle.lisp_settings.specs.Settings.{attachments, changes, databases, limits, mappings, own_locators, settings_in, top_keys}
use Rattle.lisp_settings.specs.Values.{nonce, number, seed}
use Rattle.lisp_settings.specs.Writing.{IsNonceArray}
use Rattle.lisp_settings.specs.declared.settings.Settings.{Settings}
use Rattle.lisp_settings.proofs.ArrayLemmas.{bound, count-push, dates-push, items_depth-push}
use Rattle.lisp_settings.proofs.EachLemmas.{few_items-few, pass, step}

-- as many nonces as there are texts
each_nonce-number : (list : List ℕ) (earlier : List ℕ) (items : Items) → IfOk (each_nonce list earlier items) (λ all. length all ≡ length earlier + count items)
each_nonce-number list earlier no_items = omega arith
each_nonce-number list earlier (item value more) =
    pass (λ all. length all ≡ length earlier + suc (count more)) (taken (item_key list (length earlier)) (nonce value)) _ (λ next.
    IfOk-weaker (each_nonce list (earlier ++ next ∷ []) more) _ _ (λ all is. omega (arith, is, length-append earlier (next ∷ []))) (each_nonce-number list (earlier ++ next ∷ []) more))

-- no more nonces than may be
nonces_at-few : (list : List ℕ) (most : ℕ) (table : Members) → IfOk (nonces_at list most table) (λ nonces. length nonces ≤ most)
nonces_at-few list most table =
    pass (λ nonces. length nonces ≤ most) (value_or list as_array no_items (get_member list table)) _ (λ items.
    step _ (λ nonces. length nonces ≤ most) (few_items list most items) _ (few_items-few list most items) (λ few are.
    IfOk-weaker (each_nonce list [] few) _ _ (λ all is. omega (arith, is, are.1)) (each_nonce-number list [] few)))

-- so many nonces
abbrev HasFew : Settings → Type 0
HasFew settings = length settings.nonces ≤ most_nonces

-- what is read lists 4,096 nonces at most
pub settings_in-few : (top : Members) → IfOk (settings_in top) HasFew
settings_in-few top =
    pass HasFew (only_keys top_keys top) _ (λ known.
    pass HasFew (optional (codes "seed") seed (replicate 32 0) top) _ (λ seed.
    step (λ nonces. length nonces ≤ most_nonces) HasFew (nonces_at (codes "nonces") most_nonces top) _ (nonces_at-few (codes "nonces") most_nonces top) (λ nonces few.
    pass HasFew (resolver_in top) _ (λ resolver.
    pass HasFew (optional (codes "ttl") (number 1 4294967294) default_minutes top) _ (λ ttl.
    pass HasFew (optional (codes "probe") as_bool false top) _ (λ probe.
    pass HasFew (optional (codes "echo") as_bool false top) _ (λ echo.
    pass HasFew (own_locators top) _ (λ locators.
    pass HasFew (attachments top) _ (λ attachments.
    pass HasFew (databases top) _ (λ databases.
    pass HasFew (mappings top) _ (λ mappings.
    pass HasFew (changes locators top) _ (λ changes.
    pass HasFew (limits attachments top) _ (λ limits.
    pass HasFew (only_reachable locators resolver) _ (λ reachable.
    pass HasFew (only_within mappings limits) _ (λ within. few)))))))))))))))

-- a text behind those that were read
each_nonce-push : (list earlier : List ℕ) (array : Items) (text nonces : List ℕ) (next : ℕ) → each_nonce list earlier array ≡ Ok nonces → hex_number text ≡ Some next → each_nonce list earlier (push_item array (string text)) ≡ Ok (nonces ++ next ∷ [])
each_nonce-push list earlier no_items text nonces next before reads =
    let same : earlier ≡ nonces = cc in
    rw reads (ap (λ l. Ok (l ++ next ∷ [])) same)
each_nonce-push list earlier (item value more) text nonces next before reads =
    bound (taken (item_key list (length earlier)) (nonce value)) _ _ nonces (nonces ++ next ∷ []) (λ first is.
    each_nonce-push list (earlier ++ first ∷ []) more text nonces next is reads) before

-- none yet
pub nonces_none : (values : List Value) → values ≡ [] → IsNonceArray [] (items_view values)
nonces_none values none = rw none (record { number = refl; reads = λ list. refl; depth = omega arith; dates = refl })

-- one nonce more
nonces_push : (nonces : List ℕ) (array : Items) (text : List ℕ) (next : ℕ) → IsNonceArray nonces array → hex_number text ≡ Some next → IsNonceArray (nonces ++ next ∷ []) (push_item array (string text))
nonces_push nonces array text next is reads = record {
  number = count-push array (string text) ∙ omega (arith, is.number, length-append nonces (next ∷ []));
  reads = λ list. each_nonce-push list [] array text nonces next (is.reads list) reads;
  depth = items_depth-push 0 array (string text) is.depth (omega arith);
  dates = dates-push array (string text) is.dates refl;
}

-- one text more, of the next nonce
pub nonces_more : (nonces : List ℕ) (i next : ℕ) (values pushed : List Value) (text : String Global) → i < length nonces → next ≡ get_or nonces i 0 → IsNonceArray (take i nonces) (items_view values) → pushed ≡ values ++ Text text ∷ [] → hex_number (string_bytes text) ≡ Some next → IsNonceArray (take (i + 1) nonces) (items_view pushed)
nonces_more nonces i next values pushed text below at is all reads =
    let taken_is : take (i + 1) nonces ≡ take i nonces ++ next ∷ [] = rw at (take_more nonces i 0 below) in
    let array_is : items_view pushed ≡ push_item (items_view values) (string (string_bytes text)) = ap items_view all ∙ items_view-push values (Text text) ∙ ap (push_item (items_view values)) (view-String text) in
    rw (taken_is, array_is) (nonces_push (take i nonces) (items_view values) (string_bytes text) next is reads)
