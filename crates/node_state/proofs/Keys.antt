-- Tables of keys, as the sorted lists of their bindings.
use Rattle.std.proofs.Common.{◌≡◌, ◌∙◌, ℕ, Bool, true, false, not, ◌&&◌, nat_eq, Option, Some, None, cond, T, List, [], ◌∷◌, length, refl, sym, ap}
use Rattle.std.specs.BTreeMap.{is_at}
use Rattle.number_maps.specs.Maps.{Numbered, get, put}
use Rattle.number_maps.specs.Rising.{IsRising}
use Rattle.number_maps.proofs.Changes.{get-rest}
use Rattle.number_maps.proofs.LookUps.{get-first}
use Rattle.number_maps.proofs.Order.{less-below}
use Rattle.number_maps.proofs.Rising.{Above, rising-nothing, rising-behind, rising-rest}
use Rattle.std.specs.FinMap as map
use Rattle.std.specs.FinMap.Entries.{below_all, find-where_key, is_sorted, is_sorted-where_key, same_entries}
use Rattle.std.specs.Cmp.{nat_cmp_total}
use Rattle.std.specs.List.{filter, AllByRecursion}
use Rattle.std.specs.Ordering.{is_lt, nat_cmp, match_ordering}
use Rattle.std.specs.declared.cmp.Ordering.{Ordering}
use Rattle.std.specs.declared.cmp.Ordering.TheVariants.{Less, Equal, Greater}
use Rattle.key_table.specs.declared.Bound.{Bound}
use Rattle.key_table.specs.KeyMap.{KeyMap, is_bound_to, without_id}
use Rattle.node_model.specs.Directory.{Directory, opening_directory}
use Rattle.world_model.specs.Node.{Leader, opening_leader}
use Rattle.world_model.specs.Keys.{bind, unbind}
use Rattle.node_state.specs.Keys.{bindings}

-- ---- the leader begins without keys

nothing-there : {X : Type 0} (xs : List X) → length xs ≡ 0 → xs ≡ []
nothing-there [] none = refl
nothing-there (x ∷ xs) none = absurd (cc)

-- a table without keys has no bindings
pub bindings-none : bindings map.empty ≡ []
bindings-none =
    nothing-there (bindings map.empty) (sym (map.len-entries {R = nat_cmp} map.empty) ∙ map.len-empty nat_cmp Bound)

with_keys : Directory → KeyMap → KeyMap → Leader
with_keys d queues sets = record { directory = d; queue_keys = bindings queues; set_keys = bindings sets }

opens : with_keys opening_directory map.empty map.empty ≡ opening_leader
unfolding with_keys
opens = rw bindings-none refl

-- the leader as it begins
pub leader-opens : (d : Directory) (queues sets : KeyMap) → d ≡ opening_directory → queues ≡ map.empty
    → sets ≡ map.empty
    → record { directory = d; queue_keys = bindings queues; set_keys = bindings sets } ≡ opening_leader
unfolding with_keys
leader-opens d queues sets is no_queues no_sets = rw (is, no_queues, no_sets) opens

-- ---- what a key leads to

-- by the table and by its bindings
found-as-bound : (entries : Numbered Bound) (key : ℕ) → map.find nat_cmp key entries ≡ get entries key
found-as-bound [] key = refl
found-as-bound (e ∷ entries) key =
    ap (cond (is_at (nat_cmp key) e.0) (Some e.1)) (found-as-bound entries key)

-- a key leads to the same by the table and by its bindings
pub key-as-bound : (keys : KeyMap) (key : ℕ) → map.get keys key ≡ get (bindings keys) key
key-as-bound keys key = map.get-entries keys key ∙ found-as-bound (bindings keys) key

-- ---- a key is bound

put-by : (k : ℕ) (v : Bound) (e : ℕ × Bound) (es rest : Numbered Bound) (o : Ordering) → nat_cmp k e.0 ≡ o
    → map.put nat_cmp k v es ≡ rest
    → map.put nat_cmp k v (e ∷ es) ≡ match_ordering o ((k, v) ∷ e ∷ es) ((e.0, v) ∷ es) (e ∷ rest)
put-by k v e es rest Less is later = rw is refl
put-by k v e es rest Equal is later = rw is refl
put-by k v e es rest Greater is later = rw (is, later) refl

put-as-bound : (entries : Numbered Bound) (key : ℕ) (bound : Bound)
    → map.put nat_cmp key bound entries ≡ put entries key bound
put-as-bound [] key bound = refl
put-as-bound (e ∷ entries) key bound =
    put-by key bound e entries (put entries key bound) (nat_cmp key e.0) refl (put-as-bound entries key bound)

-- a key that is bound in the table is bound in its bindings
pub bindings-bound : (keys : KeyMap) (key id count : ℕ)
    → bindings (map.insert keys key (record { id = id; count = count })) ≡ bind (bindings keys) key id count
bindings-bound keys key id count =
    map.entries-insert nat_cmp_total keys key (record { id = id; count = count })
    ∙ put-as-bound (bindings keys) key (record { id = id; count = count })

-- ---- an identifier's keys are unbound

alike : (p : ℕ → Bool) (q key : ℕ) → nat_cmp q key ≡ Equal → p key ≡ p q
alike p q key same = ap p (sym (map.nat_cmp-IsAntisymmetric q key same))

-- the bindings whose keys pass a test are those of the table with these keys
entries-retained : (keys : KeyMap) (p : ℕ → Bool)
    → bindings (map.retain_keys keys p) ≡ filter (λ e. p e.0) (bindings keys)
entries-retained keys p =
    same_entries nat_cmp nat_cmp_total map.nat_cmp-IsAntisymmetric (bindings (map.retain_keys keys p))
    (filter (λ e. p e.0) (bindings keys)) (map.entries_sorted (map.retain_keys keys p))
    (is_sorted-where_key nat_cmp p (bindings keys) (map.entries_sorted keys))
    (λ q. sym (map.get-entries (map.retain_keys keys p) q) ∙ map.get-retain_keys keys p q (alike p q)
    ∙ ap (λ (x : Option Bound). cond (p q) x None) (map.get-entries keys q)
    ∙ sym (find-where_key nat_cmp p q (alike p q) (bindings keys)))

passes : (b : Bool) → T b → b ≡ true
passes true h = refl
passes false h = absurd h

both : (a b : Bool) → (a && b) ≡ true → (a ≡ true) × (b ≡ true)
both true b h = (refl, h)
both false b h = absurd (cc)

is_less : (o : Ordering) → is_lt o ≡ true → o ≡ Less
is_less Less h = refl
is_less Equal h = absurd (cc)
is_less Greater h = absurd (cc)

above-by_table : (n : ℕ) (entries : Numbered Bound) → below_all nat_cmp n entries ≡ true → Above n entries
above-by_table n [] h = tt
above-by_table n (e ∷ entries) h =
    let parts = both (is_lt (nat_cmp n e.0)) (below_all nat_cmp n entries) h
    in (less-below n e.0 (is_less (nat_cmp n e.0) parts.0), above-by_table n entries parts.1)

rising-by_table : (entries : Numbered Bound) → is_sorted nat_cmp entries ≡ true → IsRising entries
rising-by_table [] h = rising-nothing Bound
rising-by_table (e ∷ entries) h =
    let parts = both (below_all nat_cmp e.0 entries) (is_sorted nat_cmp entries) h
    in rising-behind e entries (above-by_table e.0 entries parts.0) (rising-by_table entries parts.1)

-- the bindings come by rising key
pub bindings-rise : (keys : KeyMap) → IsRising (bindings keys)
bindings-rise keys = rising-by_table (bindings keys) (passes _ (map.entries_sorted keys))

-- what holds of entries behind another one that rise holds of them all
found-behind : (e : ℕ × Bound) (all rest : Numbered Bound) → IsRising (e ∷ all)
    → AllByRecursion (λ x. get all x.0 ≡ Some x.1) rest → AllByRecursion (λ x. get (e ∷ all) x.0 ≡ Some x.1) rest
found-behind e all [] rising found = tt
found-behind e all (x ∷ rest) rising found =
    (get-rest e all x.0 x.1 rising found.0, found-behind e all rest rising found.1)

-- each key of a rising list leads to what stands beside it
each-found : (entries : Numbered Bound) → IsRising entries → AllByRecursion (λ x. get entries x.0 ≡ Some x.1) entries
each-found [] rising = tt
each-found (e ∷ entries) rising = (
  get-first e entries e.0 refl,
  found-behind e entries entries rising (each-found entries (rising-rest e entries rising)),
)

kept-alike : (a b : Bool) (e : ℕ × Bound) (es fs : Numbered Bound) → a ≡ b → es ≡ fs
    → cond a (e ∷ es) es ≡ cond b (e ∷ fs) fs
kept-alike a b e es fs same later = rw (same, later) refl

unbound-alike : (id : ℕ) (bound : ℕ → Option Bound) (entries : Numbered Bound)
    → AllByRecursion (λ x. bound x.0 ≡ Some x.1) entries
    → filter (λ e. not (is_bound_to id (bound e.0))) entries ≡ filter (λ e. not (nat_eq e.1.id id)) entries
unbound-alike id bound [] found = refl
unbound-alike id bound (e ∷ entries) found =
    kept-alike _ _ e _ _ (ap (λ (x : Option Bound). not (is_bound_to id x)) found.0)
    (unbound-alike id bound entries found.1)

-- by the table as by its bindings
led-alike : (keys : KeyMap) (entries : Numbered Bound)
    → AllByRecursion (λ x. get (bindings keys) x.0 ≡ Some x.1) entries
    → AllByRecursion (λ x. map.get keys x.0 ≡ Some x.1) entries
led-alike keys [] found = tt
led-alike keys (e ∷ entries) found = (key-as-bound keys e.0 ∙ found.0, led-alike keys entries found.1)

-- what the table without an identifier has are the bindings without it
pub bindings-unbound : (keys : KeyMap) (id : ℕ) → bindings (without_id keys id) ≡ unbind (bindings keys) id
bindings-unbound keys id =
    entries-retained keys (λ key. not (is_bound_to id (map.get keys key)))
    ∙ unbound-alike id (map.get keys) (bindings keys)
    (led-alike keys (bindings keys) (each-found (bindings keys) (bindings-rise keys)))
