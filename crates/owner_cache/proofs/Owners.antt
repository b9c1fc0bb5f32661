-- A map that keeps the order of use, against the list of owners.
use Rattle.std.proofs.Common.{◌≡◌, slice_get, ℕ, zero, suc, ◌+◌, ◌≤◌, ◌-◌, Bool, true, false, cond, not, nat_eq, [], ◌∷◌, length, take, Option, Some, None, refl, sym, ap, subst, ◌∙◌, arith}
use Rattle.std.proofs.lemmas.Bool.Decides.{nat_tests}
use Rattle.std.specs.Map.{lookup, lookup_entry, remove_entry}
use Rattle.std.specs.Option.{option_map, option_map_or}
use Rattle.pico_base.specs.declared.numbers.Name.{Name}
use Rattle.pico_base.specs.declared.numbers.Name.TheVariants.{Proc, Msg, Sem}
use Rattle.lru.specs.LruCache.{promoted}
use Rattle.node_model.specs.Cache.{Cache, forget, learn, look, look_by, owner_in}
use Rattle.node_model.specs.Kinds.{is_same_name}
use Rattle.owner_cache.specs.Distinct.{IsOnceEach, IsWithin}

equal : (a b : ℕ) → nat_eq a b ≡ true → a ≡ b
equal a b h = grind (arith, nat_tests, h)

same_is : (a b : Name) → is_same_name a b ≡ true → a ≡ b
same_is (Proc a) (Proc b) h = ap Proc (equal a b h)
same_is (Msg a) (Msg b) h = ap Msg (equal a b h)
same_is (Sem a) (Sem b) h = ap Sem (equal a b h)
same_is (Proc a) (Msg b) h = absurd (cc)
same_is (Proc a) (Sem b) h = absurd (cc)
same_is (Msg a) (Proc b) h = absurd (cc)
same_is (Msg a) (Sem b) h = absurd (cc)
same_is (Sem a) (Proc b) h = absurd (cc)
same_is (Sem a) (Msg b) h = absurd (cc)

reflexive : (a : ℕ) → nat_eq a a ≡ true
reflexive a = grind (arith, nat_tests)

same_itself : (a : Name) → is_same_name a a ≡ true
same_itself (Proc a) = reflexive a
same_itself (Msg a) = reflexive a
same_itself (Sem a) = reflexive a

some≢none : {A : Type 0} (a : A) → Some a ≡ None → ⊥
some≢none a h = cc

-- ---- to forget a name

forget-absent : (es : Cache) (n : Name) → owner_in es n ≡ None → forget es n ≡ es
forget-absent [] n h = refl
forget-absent (e ∷ es) n h =
    elim (is_same_name n e.0) as (λ t. cond t (Some e.1) (owner_in es n) ≡ None
    → cond (not t) (e ∷ forget es n) (forget es n) ≡ e ∷ es) [
      | true ↦ λ k. absurd (some≢none e.1 k)
      | false ↦ λ k. ap (λ xs. e ∷ xs) (forget-absent es n k)
    ] h

absent_forget : (es : Cache) (n k : Name) → owner_in es k ≡ None → owner_in (forget es n) k ≡ None
absent_forget [] n k h = refl
absent_forget (e ∷ es) n k h =
    elim (is_same_name k e.0) as (λ t. is_same_name k e.0 ≡ t → cond t (Some e.1) (owner_in es k) ≡ None
    → owner_in (forget (e ∷ es) n) k ≡ None) [
      | true ↦ λ is there. absurd (some≢none e.1 there)
      | false ↦ λ is there.
          elim (is_same_name n e.0) as (λ u. owner_in (cond (not u) (e ∷ forget es n) (forget es n)) k ≡ None) [
            | true ↦ absent_forget es n k there
            | false ↦ ap (λ t. cond t (Some e.1) (owner_in (forget es n) k)) is ∙ absent_forget es n k there
          ]
    ] refl h

forgotten : (es : Cache) (n : Name) → owner_in (forget es n) n ≡ None
forgotten [] n = refl
forgotten (e ∷ es) n =
    elim (is_same_name n e.0) as (λ u. is_same_name n e.0 ≡ u
    → owner_in (cond (not u) (e ∷ forget es n) (forget es n)) n ≡ None) [
      | true ↦ λ is. forgotten es n
      | false ↦ λ is. ap (λ t. cond t (Some e.1) (owner_in (forget es n) n)) is ∙ forgotten es n
    ] refl

once_forget : (es : Cache) (n : Name) → IsOnceEach es → IsOnceEach (forget es n)
once_forget [] n h = tt
once_forget (e ∷ es) n h =
    elim (is_same_name n e.0) as (λ u. IsOnceEach (cond (not u) (e ∷ forget es n) (forget es n))) [
      | true ↦ once_forget es n h.1
      | false ↦ (absent_forget es n e.0 h.0, once_forget es n h.1)
    ]

length_forget : (es : Cache) (n : Name) → length (forget es n) ≤ length es
length_forget [] n = omega arith
length_forget (e ∷ es) n =
    elim (is_same_name n e.0) as (λ u. length (cond (not u) (e ∷ forget es n) (forget es n)) ≤ length (e ∷ es)) [
      | true ↦ omega (arith, length_forget es n)
      | false ↦ omega (arith, length_forget es n)
    ]

length_forget_there : (es : Cache) (n : Name) (v : ℕ) → owner_in es n ≡ Some v → length (forget es n) + 1 ≤ length es
length_forget_there [] n v h = absurd (some≢none v (sym h))
length_forget_there (e ∷ es) n v h =
    elim (is_same_name n e.0) as (λ u. cond u (Some e.1) (owner_in es n) ≡ Some v
    → length (cond (not u) (e ∷ forget es n) (forget es n)) + 1 ≤ length (e ∷ es)) [
      | true ↦ λ k. omega (arith, length_forget es n)
      | false ↦ λ k. omega (arith, length_forget_there es n v k)
    ] h

-- ---- to keep the first few

absent_take : (n : ℕ) (es : Cache) (k : Name) → owner_in es k ≡ None → owner_in (take n es) k ≡ None
absent_take zero es k h = refl
absent_take (suc n) [] k h = refl
absent_take (suc n) (e ∷ es) k h =
    elim (is_same_name k e.0) as (λ t. cond t (Some e.1) (owner_in es k) ≡ None
    → cond t (Some e.1) (owner_in (take n es) k) ≡ None) [
      | true ↦ λ there. there
      | false ↦ λ there. absent_take n es k there
    ] h

once_take : (n : ℕ) (es : Cache) → IsOnceEach es → IsOnceEach (take n es)
once_take zero es h = tt
once_take (suc n) [] h = tt
once_take (suc n) (e ∷ es) h = (absent_take n es e.0 h.0, once_take n es h.1)

take_all : (n : ℕ) (es : Cache) → length es ≤ n → take n es ≡ es
take_all zero [] le = refl
take_all zero (e ∷ es) le = absurd (omega arith)
take_all (suc n) [] le = refl
take_all (suc n) (e ∷ es) le = ap (λ xs. e ∷ xs) (take_all n es (omega arith))

length_take : (n : ℕ) (es : Cache) → length (take n es) ≤ n
length_take zero es = omega arith
length_take (suc n) [] = omega arith
length_take (suc n) (e ∷ es) = omega (arith, length_take n es)

-- ---- the calls

-- a cache that forgets a name stays within its places
pub forget_within : (es : Cache) (places : ℕ) (n : Name) → IsWithin es places → IsWithin (forget es n) places
forget_within es places n h =
    record { cap = h.cap; size = omega (arith, length_forget es n, h.size); once = once_forget es n h.once }

-- a cache that learns a name's node stays within its places
pub learn_within : (es : Cache) (places : ℕ) (n : Name) (v : ℕ) → IsWithin es places → IsWithin (learn es n v) places
learn_within es places n v h =
    record {
      cap = h.cap;
      size = length_take 64 ((n, v) ∷ forget es n);
      once = once_take 64 ((n, v) ∷ forget es n) (forgotten es n, once_forget es n h.once);
    }

look_by_within : (es : Cache) (places : ℕ) (n : Name) (o : Option ℕ) → owner_in es n ≡ o → IsWithin es places
    → IsWithin (look_by es n o) places
look_by_within es places n None is h = h
look_by_within es places n (Some v) is h =
    record {
      cap = h.cap;
      size = omega (arith, length_forget_there es n v is, h.size);
      once = (forgotten es n, once_forget es n h.once);
    }

-- a cache that is asked for a name stays within its places
pub look_within : (es : Cache) (places : ℕ) (n : Name) → IsWithin es places → IsWithin (look es n) places
look_within es places n h = look_by_within es places n (owner_in es n) refl h

-- ---- the name used last

owner_first : (e : Name × ℕ) (es : Cache) (n : Name) → n ≡ e.0 → owner_in (e ∷ es) n ≡ Some e.1
owner_first e es n same =
    ap (λ t. cond t (Some e.1) (owner_in es n)) (subst (λ k. is_same_name n k ≡ true) same (same_itself n))

forget_first : (e : Name × ℕ) (es : Cache) (n : Name) → n ≡ e.0 → IsOnceEach (e ∷ es)
    → (n, e.1) ∷ forget (e ∷ es) n ≡ e ∷ es
forget_first e es n same once =
    ap (λ t. (n, e.1) ∷ cond (not t) (e ∷ forget es n) (forget es n))
    (subst (λ k. is_same_name n k ≡ true) same (same_itself n))
    ∙ ap (λ xs. (n, e.1) ∷ xs) (forget-absent es n (subst (λ k. owner_in es k ≡ None) (sym same) once.0))
    ∙ ap (λ k. (k, e.1) ∷ es) same

-- the name used last has the first entry's node
pub owner_last : (es : Cache) (n : Name) (e : Name × ℕ) → Some e ≡ slice_get es 0 → is_same_name e.0 n ≡ true
    → owner_in es n ≡ Some e.1
owner_last [] n e is same = absurd (cc)
owner_last (x ∷ xs) n e is same =
    let first : x ≡ e = cc in
    subst (λ (y : Name × ℕ). owner_in (y ∷ xs) n ≡ Some e.1) (sym first)
    (owner_first e xs n (sym (same_is e.0 n same)))

-- to look at it changes nothing
pub look_last : (es : Cache) (n : Name) (e : Name × ℕ) → Some e ≡ slice_get es 0 → is_same_name e.0 n ≡ true
    → IsOnceEach es → look es n ≡ es
look_last [] n e is same once = absurd (cc)
look_last (x ∷ xs) n e is same once =
    let first : e ≡ x = cc in
    let here : n ≡ x.0 = sym (same_is e.0 n same) ∙ ap (λ (y : Name × ℕ). y.0) first in
    ap (look_by (x ∷ xs) n) (owner_first x xs n here) ∙ forget_first x xs n here once

-- nor does to learn its node again
pub learn_last : (es : Cache) (n : Name) (e : Name × ℕ) → Some e ≡ slice_get es 0 → is_same_name e.0 n ≡ true
    → length es ≤ 64 → IsOnceEach es → learn es n e.1 ≡ es
learn_last [] n e is same le once = absurd (cc)
learn_last (x ∷ xs) n e is same le once =
    let first : e ≡ x = cc in
    let here : n ≡ x.0 = sym (same_is e.0 n same) ∙ ap (λ (y : Name × ℕ). y.0) first in
    ap (λ (y : Name × ℕ). learn (x ∷ xs) n y.1) first
    ∙ ap (take 64) (forget_first x xs n here once)
    ∙ take_all 64 (x ∷ xs) le

module _ (n : Name) (test : Name → Bool) (same : (k : Name) → test k ≡ is_same_name n k) where
  pub remove_is : (es : Cache) → IsOnceEach es → remove_entry test es ≡ forget es n
  remove_is [] h = refl
  remove_is (e ∷ es) h =
      elim (is_same_name n e.0) as (λ u. is_same_name n e.0 ≡ u → test e.0 ≡ u
      → cond (test e.0) es (e ∷ remove_entry test es) ≡ cond (not u) (e ∷ forget es n) (forget es n)) [
        | true ↦ λ is on. ap (λ t. cond t es (e ∷ remove_entry test es)) on
            ∙ sym (forget-absent es n (subst (λ k. owner_in es k ≡ None) (sym (same_is n e.0 is)) h.0))
        | false ↦ λ is on. ap (λ t. cond t es (e ∷ remove_entry test es)) on ∙ ap (λ xs. e ∷ xs) (remove_is es h.1)
      ] refl (same e.0)

  pub lookup_is : (es : Cache) → lookup test es ≡ owner_in es n
  lookup_is [] = refl
  lookup_is (e ∷ es) = ap (λ t. cond t (Some e.1) (lookup test es)) (same e.0)
      ∙ ap (λ o. cond (is_same_name n e.0) (Some e.1) o) (lookup_is es)

  entry_is : (es : Cache) → lookup_entry test es ≡ option_map (λ v. (n, v)) (owner_in es n)
  entry_is [] = refl
  entry_is (e ∷ es) =
      elim (is_same_name n e.0) as (λ u. is_same_name n e.0 ≡ u → test e.0 ≡ u
      → cond (test e.0) (Some e) (lookup_entry test es)
      ≡ option_map (λ v. (n, v)) (cond u (Some e.1) (owner_in es n))) [
        | true ↦ λ is on. ap (λ t. cond t (Some e) (lookup_entry test es)) on
            ∙ ap (λ k. Some (k, e.1)) (sym (same_is n e.0 is))
        | false ↦ λ is on. ap (λ t. cond t (Some e) (lookup_entry test es)) on ∙ entry_is es
      ] refl (same e.0)

  promote_by : (es : Cache) (o : Option ℕ) → IsOnceEach es
      → option_map_or (λ e. e ∷ remove_entry test es) (option_map (λ v. (n, v)) o) es ≡ look_by es n o
  promote_by es None h = refl
  promote_by es (Some v) h = ap (λ xs. (n, v) ∷ xs) (remove_is es h)

  pub promote_is : (es : Cache) → IsOnceEach es → promoted test es ≡ look es n
  promote_is es h = ap (λ o. option_map_or (λ e. e ∷ remove_entry test es) o es) (entry_is es)
      ∙ promote_by es (owner_in es n) h

  put_by : (es : Cache) (v : ℕ) (o : Option ℕ) → owner_in es n ≡ o → length es ≤ 64 → IsOnceEach es
      → option_map_or (λ (e : Name × ℕ). (e.0, v) ∷ remove_entry test es) (option_map (λ w. (n, w)) o)
      ((n, v) ∷ take 63 es) ≡ (n, v) ∷ take 63 (forget es n)
  put_by es v None is le h = ap (λ xs. (n, v) ∷ take 63 xs) (sym (forget-absent es n is))
  put_by es v (Some w) is le h =
      ap (λ xs. (n, v) ∷ xs)
      (remove_is es h ∙ sym (take_all 63 (forget es n) (omega (arith, length_forget_there es n w is))))

  pub put_is : (es : Cache) (v : ℕ) → length es ≤ 64 → IsOnceEach es
      → option_map_or (λ (e : Name × ℕ). (e.0, v) ∷ remove_entry test es) (lookup_entry test es) ((n, v) ∷ take 63 es)
      ≡ (n, v) ∷ take 63 (forget es n)
  put_is es v le h =
      ap (λ o. option_map_or (λ (e : Name × ℕ). (e.0, v) ∷ remove_entry test es) o ((n, v) ∷ take 63 es)) (entry_is es)
      ∙ put_by es v (owner_in es n) refl le h

  pub put_cap : (es : Cache) (places v : ℕ) → IsWithin es places
      → option_map_or (λ (e : Name × ℕ). (e.0, v) ∷ remove_entry test es) (lookup_entry test es)
      ((n, v) ∷ take (places - 1) es) ≡ learn es n v
  put_cap es places v h =
      ap (λ k. option_map_or (λ (e : Name × ℕ). (e.0, v) ∷ remove_entry test es) (lookup_entry test es)
      ((n, v) ∷ take (k - 1) es)) h.cap
      ∙ put_is es v h.size h.once
