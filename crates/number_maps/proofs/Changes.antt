-- Changes of a map that undo one another, and changes as the code's ordered maps make them.
use Rattle.std.proofs.Common.{◌≡◌, ◌∙◌, ℕ, Bool, true, false, cond, not, ◌||◌, nat_eq, List, [], ◌∷◌, Some, None, is_some, refl, ap, Ordering}
use Rattle.std.specs.declared.cmp.Ordering.TheVariants.{Less, Equal, Greater}
use Rattle.std.specs.List.{list_any, AllByRecursion}
use Rattle.std.specs.Ordering.{nat_cmp, match_ordering}
use Rattle.std.specs.Map.{remove_entry, set_value, keys_of}
use Rattle.std.specs.BTreeMap.{is_at}
use Rattle.std.specs.Cmp.{nat_cmp_total}
use Rattle.std.proofs.lemmas.Map.{lookup-none}
use Rattle.std.proofs.lemmas.Map.Entries.{none_below_head}
use Rattle.std.proofs.lemmas.Map.Keys.{sorted_head, sorted_tail}
use Rattle.number_maps.specs.Maps.{Numbered, get, put, without, is_used, used_with}
use Rattle.number_maps.specs.Rising.{IsRising}
use Rattle.number_maps.proofs.Order.{cmp-same, is_at-nat_eq, less-apart, same-from-nat_eq}

module _ {V : Type 0} where
  -- changes that undo one another

  undone : (k : ℕ) (v : V) (e : ℕ × V) (es rest : Numbered V) (o : Ordering) → nat_cmp k e.0 ≡ o → get (e ∷ es) k ≡ None
      → (get es k ≡ None → remove_entry (is_at (nat_cmp k)) rest ≡ es)
      → remove_entry (is_at (nat_cmp k)) (match_ordering o ((k, v) ∷ e ∷ es) ((e.0, v) ∷ es) (e ∷ rest)) ≡ e ∷ es
  undone k v e es rest Less h none rec = rw (cmp-same k)
  undone k v e es rest Equal h none rec = let some : Some e.1 ≡ None = rw h at none in absurd (cc)
  undone k v e es rest Greater h none rec = let later : get es k ≡ None = rw h at none in rw (h, rec later)

  pub remove-put : (m : Numbered V) (k : ℕ) (v : V) → get m k ≡ None → remove_entry (is_at (nat_cmp k)) (put m k v) ≡ m
  remove-put [] k v none = rw (cmp-same k)
  remove-put (e ∷ es) k v none = undone k v e es (put es k v) (nat_cmp k e.0) refl none (remove-put es k v)

  rewritten : (k : ℕ) (v w : V) (e : ℕ × V) (es rest : Numbered V) (o : Ordering) → nat_cmp k e.0 ≡ o
      → put rest k w ≡ put es k w
      → put (match_ordering o ((k, v) ∷ e ∷ es) ((e.0, v) ∷ es) (e ∷ rest)) k w ≡ put (e ∷ es) k w
  rewritten k v w e es rest Less h rec = rw (cmp-same k, h)
  rewritten k v w e es rest Equal h rec = rw h
  rewritten k v w e es rest Greater h rec = rw (h, rec)

  pub put-put : (m : Numbered V) (k : ℕ) (v w : V) → put (put m k v) k w ≡ put m k w
  put-put [] k v w = rw (cmp-same k)
  put-put (e ∷ es) k v w = rewritten k v w e es (put es k v) (nat_cmp k e.0) refl (put-put es k v w)

  -- maps in order

  pub less-none : (k : ℕ) (e : ℕ × V) (es : Numbered V) → IsRising (e ∷ es) → nat_cmp k e.0 ≡ Less
      → get (e ∷ es) k ≡ None
  less-none k e es rising h = lookup-none _ (e ∷ es) (none_below_head nat_cmp_total k e es rising h)

  pub past-none : (k : ℕ) (es : Numbered V) → AllByRecursion (λ y. nat_cmp k y ≡ Less) (keys_of es) → get es k ≡ None
  past-none k [] above = refl
  past-none k (e ∷ es) above =
      let no : is_at (nat_cmp k) e.0 ≡ false = is_at-nat_eq k e.0 ∙ less-apart k e.0 above.0
      in rw no (past-none k es above.1)

  -- what the rest has at a number, the whole has
  pub get-rest : (e : ℕ × V) (es : Numbered V) (q : ℕ) (x : V) → IsRising (e ∷ es) → get es q ≡ Some x
      → get (e ∷ es) q ≡ Some x
  get-rest e es q x rising there = at (nat_eq q e.0) refl
    where
      at : (b : Bool) → nat_eq q e.0 ≡ b → get (e ∷ es) q ≡ Some x
      at true is =
          let none : get es q ≡ None =
          rw (same-from-nat_eq q e.0 is) (past-none e.0 es (sorted_head nat_cmp e.0 (keys_of es) rising))
          in absurd (cc)
      at false is = let no : is_at (nat_cmp q) e.0 ≡ false = is_at-nat_eq q e.0 ∙ is in rw no there

  written : (k : ℕ) (v w : V) (e : ℕ × V) (es rest : Numbered V) (o : Ordering) → nat_cmp k e.0 ≡ o → IsRising (e ∷ es)
      → get (e ∷ es) k ≡ Some w → (get es k ≡ Some w → set_value (is_at (nat_cmp k)) es v ≡ rest)
      → set_value (is_at (nat_cmp k)) (e ∷ es) v ≡ match_ordering o ((k, v) ∷ e ∷ es) ((e.0, v) ∷ es) (e ∷ rest)
  written k v w e es rest Less h rising there rec =
      let none : get (e ∷ es) k ≡ None = less-none k e es rising h in absurd (cc)
  written k v w e es rest Equal h rising there rec = rw h
  written k v w e es rest Greater h rising there rec = let later : get es k ≡ Some w =
      rw h at there in rw (h, rec later)

  -- a value written where one is
  pub set_value-put : (m : Numbered V) (k : ℕ) (v w : V) → IsRising m → get m k ≡ Some w
      → set_value (is_at (nat_cmp k)) m v ≡ put m k v
  set_value-put [] k v w rising there = absurd (cc)
  set_value-put (e ∷ es) k v w rising there =
      written k v w e es (put es k v) (nat_cmp k e.0) refl rising there
      (set_value-put es k v w (sorted_tail nat_cmp e.0 (keys_of es) rising))

  keep-all : (k : ℕ) (es : Numbered V) → AllByRecursion (λ y. nat_cmp k y ≡ Less) (keys_of es) → without es k ≡ es
  keep-all k [] above = refl
  keep-all k (e ∷ es) above = rw (less-apart k e.0 above.0, keep-all k es above.1)

  left_out : (k : ℕ) (e : ℕ × V) (es rest : Numbered V) (b : Bool) → nat_eq k e.0 ≡ b → IsRising (e ∷ es)
      → without es k ≡ rest
      → cond (not b) (e ∷ without es k) (without es k) ≡ cond b es (e ∷ rest)
  left_out k e es rest true h rising rec =
      rw (same-from-nat_eq k e.0 h) (keep-all e.0 es (sorted_head nat_cmp e.0 (keys_of es) rising))
  left_out k e es rest false h rising rec = ap (λ (xs : Numbered V). e ∷ xs) rec

  pub without-remove : (m : Numbered V) (k : ℕ) → IsRising m → without m k ≡ remove_entry (is_at (nat_cmp k)) m
  without-remove [] k rising = refl
  without-remove (e ∷ es) k rising =
      rw (is_at-nat_eq k e.0)
      (left_out k e es (remove_entry (is_at (nat_cmp k)) es) (nat_eq k e.0) refl rising
      (without-remove es k (sorted_tail nat_cmp e.0 (keys_of es) rising)))

  -- the numbers of a map

  known : (n : ℕ) (e : ℕ × V) (es : Numbered V) (b : Bool) → nat_eq n e.0 ≡ b
      → list_any (nat_eq n) (keys_of es) ≡ is_some (get es n)
      → (b || list_any (nat_eq n) (keys_of es)) ≡ is_some (cond b (Some e.1) (get es n))
  known n e es true h rec = refl
  known n e es false h rec = rec

  pub is_used-keys : (m : Numbered V) (n : ℕ) → is_used (keys_of m) n ≡ is_some (get m n)
  is_used-keys [] n = refl
  is_used-keys (e ∷ es) n = rw (is_at-nat_eq n e.0) (known n e es (nat_eq n e.0) refl (is_used-keys es n))

  spread : (k : ℕ) (v : V) (e : ℕ × V) (es rest : Numbered V) (o : Ordering) → keys_of rest ≡ used_with (keys_of es) k
      → keys_of (match_ordering o ((k, v) ∷ e ∷ es) ((e.0, v) ∷ es) (e ∷ rest))
      ≡ match_ordering o (k ∷ e.0 ∷ keys_of es) (e.0 ∷ keys_of es) (e.0 ∷ used_with (keys_of es) k)
  spread k v e es rest Less rec = refl
  spread k v e es rest Equal rec = refl
  spread k v e es rest Greater rec = ap (λ (xs : List ℕ). e.0 ∷ xs) rec

  pub keys-put : (m : Numbered V) (k : ℕ) (v : V) → keys_of (put m k v) ≡ used_with (keys_of m) k
  keys-put [] k v = refl
  keys-put (e ∷ es) k v = spread k v e es (put es k v) (nat_cmp k e.0) (keys-put es k v)
