-- Maps with other values at the same numbers, and what holds of all values.
use Rattle.std.proofs.Common.{◌≡◌, ℕ, Bool, true, false, cond, not, nat_eq, List, [], ◌∷◌, Option, Some, None, refl, ap, sym, subst, Ordering}
use Rattle.std.specs.declared.cmp.Ordering.TheVariants.{Less, Equal, Greater}
use Rattle.std.specs.List.{filter}
use Rattle.std.specs.Option.{option_map}
use Rattle.std.specs.Ordering.{nat_cmp, match_ordering}
use Rattle.std.specs.Map.{keys_of}
use Rattle.std.specs.List.Sorted.{IsStrictlySortedBy}
use Rattle.std.specs.BTreeMap.{is_at}
use Rattle.std.proofs.lemmas.Map.Keys.{sorted_tail}
use Rattle.number_maps.specs.Maps.{Numbered, get, put, without}
use Rattle.number_maps.specs.Rising.{IsRising}
use Rattle.number_maps.proofs.Changes.{less-none}
use Rattle.waiting_model.specs.Plain.{each, AllValues}

module _ {A B : Type 0} where
  -- what a map has at a number goes along
  got : (f : A → B) (e : ℕ × A) (b : Bool) (x : Option A) (y : Option B) → y ≡ option_map f x
      → cond b (Some (f e.1)) y ≡ option_map f (cond b (Some e.1) x)
  got f e true x y h = refl
  got f e false x y h = h

  pub get-each : (f : A → B) (m : Numbered A) (k : ℕ) → get (each f m) k ≡ option_map f (get m k)
  get-each f [] k = refl
  get-each f (e ∷ m) k = got f e (is_at (nat_cmp k) e.0) (get m k) (get (each f m) k) (get-each f m k)

  placed : (f : A → B) (k : ℕ) (v : A) (e : ℕ × A) (m rest : Numbered A) (after : Numbered B) (o : Ordering)
      → after ≡ each f rest
      → match_ordering o ((k, f v) ∷ (e.0, f e.1) ∷ each f m) ((e.0, f v) ∷ each f m) ((e.0, f e.1) ∷ after)
      ≡ each f (match_ordering o ((k, v) ∷ e ∷ m) ((e.0, v) ∷ m) (e ∷ rest))
  placed f k v e m rest after Less h = refl
  placed f k v e m rest after Equal h = refl
  placed f k v e m rest after Greater h = ap (λ (xs : Numbered B). (e.0, f e.1) ∷ xs) h

  -- and so does what is put into it
  pub put-each : (f : A → B) (m : Numbered A) (k : ℕ) (v : A) → put (each f m) k (f v) ≡ each f (put m k v)
  put-each f [] k v = refl
  put-each f (e ∷ m) k v =
      placed f k v e m (put m k v) (put (each f m) k (f v)) (nat_cmp k e.0) (put-each f m k v)

  left : (f : A → B) (e : ℕ × A) (b : Bool) (xs : Numbered A) (ys : Numbered B) → ys ≡ each f xs
      → cond b ((e.0, f e.1) ∷ ys) ys ≡ each f (cond b (e ∷ xs) xs)
  left f e true xs ys h = ap (λ (zs : Numbered B). (e.0, f e.1) ∷ zs) h
  left f e false xs ys h = h

  -- and what is taken out
  pub without-each : (f : A → B) (m : Numbered A) (k : ℕ) → without (each f m) k ≡ each f (without m k)
  without-each f [] k = refl
  without-each f (e ∷ m) k =
      left f e (not (nat_eq k e.0)) (without m k) (without (each f m) k) (without-each f m k)

  pub keys-each : (f : A → B) (m : Numbered A) → keys_of (each f m) ≡ keys_of m
  keys-each f [] = refl
  keys-each f (e ∷ m) = ap (λ (ks : List ℕ). e.0 ∷ ks) (keys-each f m)

  pub rising-each : (f : A → B) (m : Numbered A) → IsRising m → IsRising (each f m)
  rising-each f m r = subst (λ (ks : List ℕ). IsStrictlySortedBy nat_cmp ks) (sym (keys-each f m)) r

module _ {V : Type 0} where
  same : (k : ℕ) (v : V) (e : ℕ × V) (m rest : Numbered V) (o : Ordering) → nat_cmp k e.0 ≡ o → IsRising (e ∷ m)
      → get (e ∷ m) k ≡ Some v → (get m k ≡ Some v → rest ≡ m)
      → match_ordering o ((k, v) ∷ e ∷ m) ((e.0, v) ∷ m) (e ∷ rest) ≡ e ∷ m
  same k v e m rest Less h rising there rec = let none : get (e ∷ m) k ≡ None = less-none k e m rising h in absurd (cc)
  same k v e m rest Equal h rising there rec =
      let is : Some e.1 ≡ Some v = rw h at there
      in let value : e.1 ≡ v = cc
      in ap (λ (w : V). (let x : ℕ × V = (e.0, w) in x ∷ m)) (sym value)
  same k v e m rest Greater h rising there rec =
      let later : get m k ≡ Some v = rw h at there
      in ap (λ (xs : Numbered V). e ∷ xs) (rec later)

  -- to put what is there changes nothing
  pub put-same : (m : Numbered V) (k : ℕ) (v : V) → IsRising m → get m k ≡ Some v → put m k v ≡ m
  put-same [] k v rising there = absurd (cc)
  put-same (e ∷ m) k v rising there =
      same k v e m (put m k v) (nat_cmp k e.0) refl rising there
      (put-same m k v (sorted_tail nat_cmp e.0 (keys_of m) rising))

  found : (P : V → Type 0) (e : ℕ × V) (b : Bool) (x : Option V) (v : V) → P e.1 → (x ≡ Some v → P v)
      → cond b (Some e.1) x ≡ Some v → P v
  found P e true x v h rec there = let value : e.1 ≡ v = cc in subst P value h
  found P e false x v h rec there = rec there

  -- what holds of all values holds of each that is looked up
  pub all-get : (P : V → Type 0) (m : Numbered V) (k : ℕ) (v : V) → AllValues P m → get m k ≡ Some v → P v
  all-get P [] k v all there = absurd (cc)
  all-get P (e ∷ m) k v all there =
      found P e (is_at (nat_cmp k) e.0) (get m k) v all.0 (all-get P m k v all.1) there

  all-placed : (P : V → Type 0) (k : ℕ) (v : V) (e : ℕ × V) (m rest : Numbered V) (o : Ordering) → P v → P e.1
      → AllValues P m → AllValues P rest
      → AllValues P (match_ordering o ((k, v) ∷ e ∷ m) ((e.0, v) ∷ m) (e ∷ rest))
  all-placed P k v e m rest Less new first all later = (new, (first, all))
  all-placed P k v e m rest Equal new first all later = (new, all)
  all-placed P k v e m rest Greater new first all later = (first, later)

  -- and of all values of the map with another one of that kind
  pub all-put : (P : V → Type 0) (m : Numbered V) (k : ℕ) (v : V) → AllValues P m → P v → AllValues P (put m k v)
  all-put P [] k v all new = (new, tt)
  all-put P (e ∷ m) k v all new =
      all-placed P k v e m (put m k v) (nat_cmp k e.0) new all.0 all.1 (all-put P m k v all.1 new)

  all-left : (P : V → Type 0) (e : ℕ × V) (b : Bool) (xs : Numbered V) → P e.1 → AllValues P xs
      → AllValues P (cond b (e ∷ xs) xs)
  all-left P e true xs h all = (h, all)
  all-left P e false xs h all = all

  pub all-filter : (P : V → Type 0) (test : ℕ × V → Bool) (m : Numbered V) → AllValues P m → AllValues P (filter test m)
  all-filter P test [] all = tt
  all-filter P test (e ∷ m) all = all-left P e (test e) (filter test m) all.0 (all-filter P test m all.1)
