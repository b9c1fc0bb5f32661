-- What a map from names has at a name, after a change.
use Rattle.std.proofs.Common.{◌≡◌, ◌≢◌, ◌⊎◌, Bool, true, false, Some, None, refl, ap, sym, subst, ◌∙◌, inl, inr}
use Rattle.std.proofs.lemmas.Bool.{cases_eq, eq-eqb, eqb-true, false≢true}
use Rattle.pico_base.specs.declared.numbers.Name.{Name}
use Rattle.pico_base.specs.declared.numbers.Name.TheVariants.{Proc, Msg, Sem}
use Rattle.number_maps.proofs.LookUps.{get-put-same, get-put-other, get-without-same, get-without-other}
use Rattle.node_model.specs.Kinds.{Named, kind_of, number_of, is_same_kind, is_same_name, get_named, put_named, without_named}

-- ---- names

same-kind : (a : Name) → is_same_kind (kind_of a) (kind_of a) ≡ true
same-kind (Proc n) = refl
same-kind (Msg n) = refl
same-kind (Sem n) = refl

-- names of two kinds are two
pub other-kind : (a b : Name) → is_same_kind (kind_of a) (kind_of b) ≡ false → a ≢ b
other-kind a b h e = false≢true (sym h ∙ subst (λ c. is_same_kind (kind_of a) (kind_of c) ≡ true) e (same-kind a))

-- two names are one, or they are two
pub name-cases : (a b : Name) → (a ≡ b) ⊎ (a ≢ b)
name-cases (Proc m) (Proc n) = elim (cases_eq m n) [ inl e ↦ inl (ap Proc e) | inr d ↦ inr (λ e. d (ap number_of e)) ]
name-cases (Msg m) (Msg n) = elim (cases_eq m n) [ inl e ↦ inl (ap Msg e) | inr d ↦ inr (λ e. d (ap number_of e)) ]
name-cases (Sem m) (Sem n) = elim (cases_eq m n) [ inl e ↦ inl (ap Sem e) | inr d ↦ inr (λ e. d (ap number_of e)) ]
name-cases (Proc m) (Msg n) = inr (other-kind _ _ refl)
name-cases (Proc m) (Sem n) = inr (other-kind _ _ refl)
name-cases (Msg m) (Proc n) = inr (other-kind _ _ refl)
name-cases (Msg m) (Sem n) = inr (other-kind _ _ refl)
name-cases (Sem m) (Proc n) = inr (other-kind _ _ refl)
name-cases (Sem m) (Msg n) = inr (other-kind _ _ refl)

-- one name passes the test
pub same-name : (a b : Name) → a ≡ b → is_same_name a b ≡ true
same-name a b e = subst (λ c. is_same_name a c ≡ true) e (itself a)
  where
    itself : (c : Name) → is_same_name c c ≡ true
    itself (Proc n) = eq-eqb n n refl
    itself (Msg n) = eq-eqb n n refl
    itself (Sem n) = eq-eqb n n refl

-- what passes the test is one name
pub same-name-is : (a b : Name) → is_same_name a b ≡ true → a ≡ b
same-name-is (Proc m) (Proc n) h = ap Proc (eqb-true m n h)
same-name-is (Msg m) (Msg n) h = ap Msg (eqb-true m n h)
same-name-is (Sem m) (Sem n) h = ap Sem (eqb-true m n h)
same-name-is (Proc m) (Msg n) h = absurd (false≢true h)
same-name-is (Proc m) (Sem n) h = absurd (false≢true h)
same-name-is (Msg m) (Proc n) h = absurd (false≢true h)
same-name-is (Msg m) (Sem n) h = absurd (false≢true h)
same-name-is (Sem m) (Proc n) h = absurd (false≢true h)
same-name-is (Sem m) (Msg n) h = absurd (false≢true h)

-- two names fail it
pub other-name : (a b : Name) → a ≢ b → is_same_name a b ≡ false
other-name a b d = by-test (is_same_name a b) refl
  where
    by-test : (t : Bool) → is_same_name a b ≡ t → is_same_name a b ≡ false
    by-test true h = absurd (d (same-name-is a b h))
    by-test false h = h

-- ---- maps

-- a value that is put is there, and the others stay
pub get-put-same-name : {V : Type 0} (m : Named V) (a : Name) (v : V) → get_named (put_named m a v) a ≡ Some v
get-put-same-name m (Proc n) v = get-put-same m.processes n v
get-put-same-name m (Msg n) v = get-put-same m.queues n v
get-put-same-name m (Sem n) v = get-put-same m.sets n v

-- the others stay
pub get-put-other-name : {V : Type 0} (m : Named V) (a : Name) (v : V) (b : Name) → b ≢ a
    → get_named (put_named m a v) b ≡ get_named m b
get-put-other-name m (Proc n) v (Proc q) d = get-put-other m.processes n v q (λ e. d (ap Proc e))
get-put-other-name m (Msg n) v (Msg q) d = get-put-other m.queues n v q (λ e. d (ap Msg e))
get-put-other-name m (Sem n) v (Sem q) d = get-put-other m.sets n v q (λ e. d (ap Sem e))
get-put-other-name m (Proc n) v (Msg q) d = refl
get-put-other-name m (Proc n) v (Sem q) d = refl
get-put-other-name m (Msg n) v (Proc q) d = refl
get-put-other-name m (Msg n) v (Sem q) d = refl
get-put-other-name m (Sem n) v (Proc q) d = refl
get-put-other-name m (Sem n) v (Msg q) d = refl

-- what is taken out isn't there, and the others stay
pub get-without-same-name : {V : Type 0} (m : Named V) (a : Name) → get_named (without_named m a) a ≡ None
get-without-same-name m (Proc n) = get-without-same m.processes n
get-without-same-name m (Msg n) = get-without-same m.queues n
get-without-same-name m (Sem n) = get-without-same m.sets n

-- the others stay
pub get-without-other-name : {V : Type 0} (m : Named V) (a b : Name) → b ≢ a
    → get_named (without_named m a) b ≡ get_named m b
get-without-other-name m (Proc n) (Proc q) d = get-without-other m.processes n q (λ e. d (ap Proc e))
get-without-other-name m (Msg n) (Msg q) d = get-without-other m.queues n q (λ e. d (ap Msg e))
get-without-other-name m (Sem n) (Sem q) d = get-without-other m.sets n q (λ e. d (ap Sem e))
get-without-other-name m (Proc n) (Msg q) d = refl
get-without-other-name m (Proc n) (Sem q) d = refl
get-without-other-name m (Msg n) (Proc q) d = refl
get-without-other-name m (Msg n) (Sem q) d = refl
get-without-other-name m (Sem n) (Proc q) d = refl
get-without-other-name m (Sem n) (Msg q) d = refl
