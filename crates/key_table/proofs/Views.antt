-- The finite map that the entries of an index map make.
use Rattle.std.proofs.Common.{◌≡◌, ℕ, Bool, true, false, cond, not, nat_eq, List, [], ◌∷◌, Option, Some, None, refl, sym, ap, ◌∙◌, arith}
use Rattle.std.proofs.lemmas.Bool.{false≢true}
use Rattle.std.proofs.lemmas.Bool.Decides.{nat_tests}
use Rattle.std.specs.Cmp.{nat_cmp_total}
use Rattle.std.specs.FinMap.{find, get, insert, from_entries, get-from_entries, get-insert, get-retain_keys, same_map, nat_cmp-IsAntisymmetric}
use Rattle.std.specs.Map.{lookup}
use Rattle.std.specs.Ordering.{nat_cmp, eq_by_cmp}
use Rattle.key_table.specs.declared.Bound.{Bound}
use Rattle.key_table.specs.KeyMap.{Binds, KeyMap, is_bound_to, without_id}

tie : (q k : ℕ) → eq_by_cmp nat_cmp q k ≡ nat_eq q k
tie q k = grind (arith, nat_tests)

turned : (q k : ℕ) → nat_eq q k ≡ nat_eq k q
turned q k = grind (arith, nat_tests)

find-lookup : (es : List (ℕ × Bound)) (q : ℕ) → find nat_cmp q es ≡ lookup (nat_eq q) es
find-lookup [] q = refl
find-lookup (e ∷ es) q = rw (tie q e.0) (ap (cond (nat_eq q e.0) (Some e.1)) (find-lookup es q))

-- what the map has at a key
pub get-view : (es : List (ℕ × Bound)) (q : ℕ) → get (from_entries {R = nat_cmp} es) q ≡ lookup (nat_eq q) es
get-view es q = get-from_entries nat_cmp_total es q ∙ find-lookup es q

-- the same of the map that a table is seen as
pub get-seen : (es : List (ℕ × Bound)) (m : KeyMap) → from_entries es ≡ m → (q : ℕ) → get m q ≡ lookup (nat_eq q) es
get-seen es m seen q = ap (λ (n : KeyMap). get n q) (sym seen) ∙ get-view es q

-- entries that look alike but at one key make maps that differ there
pub view-bound : (es fs : List (ℕ × Bound)) (k : ℕ) (b : Bound)
    → ((q : ℕ) → lookup (nat_eq q) fs ≡ cond (nat_eq k q) (Some b) (lookup (nat_eq q) es))
    → from_entries {R = nat_cmp} fs ≡ insert (from_entries es) k b
view-bound es fs k b alike =
    same_map nat_cmp_total nat_cmp-IsAntisymmetric _ _ (λ q.
    get-view fs q ∙ alike q ∙ ap (cond (nat_eq k q) (Some b)) (sym (get-view es q))
    ∙ ap (λ (t : Bool). cond t (Some b) (get (from_entries {R = nat_cmp} es) q)) (turned k q ∙ sym (tie q k))
    ∙ sym (get-insert nat_cmp_total (from_entries es) k b q))

chosen : (t : Bool) (x : Option Bound) → cond t None x ≡ cond (not t) x None
chosen true x = refl
chosen false x = refl

-- entries that look alike but at what is bound to an identifier
pub view-without : (es fs : List (ℕ × Bound)) (id : ℕ)
    → ((q : ℕ) → lookup (nat_eq q) fs ≡ cond (is_bound_to id (lookup (nat_eq q) es)) None (lookup (nat_eq q) es))
    → from_entries {R = nat_cmp} fs ≡ without_id (from_entries es) id
view-without es fs id alike =
    let m = from_entries {R = nat_cmp} es in
    same_map nat_cmp_total nat_cmp-IsAntisymmetric _ _ (λ q.
    get-view fs q ∙ alike q ∙ ap (λ (x : Option Bound). cond (is_bound_to id x) None x) (sym (get-view es q))
    ∙ chosen (is_bound_to id (get m q)) (get m q)
    ∙ sym (get-retain_keys m (λ k. not (is_bound_to id (get m k))) q
    (λ k same. ap (λ (n : ℕ). not (is_bound_to id (get m n))) (sym (nat_cmp-IsAntisymmetric q k same)))))

taken_out : (t : Bool) (x : Option Bound) (id : ℕ) → is_bound_to id x ≡ t → is_bound_to id (cond (not t) x None) ≡ true
    → ⊥
taken_out true x id e there = false≢true there
taken_out false x id e there = false≢true (sym e ∙ there)

-- no key is left that is bound to the identifier
pub Binds-without_id : (m : KeyMap) (id : ℕ) → Binds (without_id m id) id → ⊥
Binds-without_id m id held =
    let left = get-retain_keys m (λ k. not (is_bound_to id (get m k))) held.0
    (λ k same. ap (λ (n : ℕ). not (is_bound_to id (get m n))) (sym (nat_cmp-IsAntisymmetric held.0 k same))) in
    taken_out (is_bound_to id (get m held.0)) (get m held.0) id refl (ap (is_bound_to id) (sym left) ∙ held.1)
