-- Names that are one or two, and what a map from names has after changes.
use Rattle.std.proofs.Common.{◌≡◌, ◌≢◌, ◌⊎◌, Bool, true, false, List, Some, refl, ap, sym, subst, ◌∙◌, inl, inr}
use Rattle.std.specs.List.{list_any}
use Rattle.std.proofs.lemmas.Bool.{cases_Bool, eq-eqb, eqb-true, false≢true}
use Rattle.pico_base.specs.declared.numbers.Name.{Name}
use Rattle.pico_base.specs.declared.numbers.Name.TheVariants.{Proc, Msg, Sem}
use Rattle.number_maps.proofs.LookUps.{get-put-same, get-put-other}
use Rattle.node_model.specs.Kinds.{Named, is_same_name, get_named, put_named}

-- ---- names

-- a name is the same as itself
pub same-name : (a : Name) → is_same_name a a ≡ true
same-name (Proc n) = eq-eqb n n refl
same-name (Msg n) = eq-eqb n n refl
same-name (Sem n) = eq-eqb n n refl

-- names that are the same by the test are equal
pub same-name-is : (a b : Name) → is_same_name a b ≡ true → a ≡ b
same-name-is (Proc m) (Proc n) h = ap Proc (eqb-true m n h)
same-name-is (Msg m) (Msg n) h = ap Msg (eqb-true m n h)
same-name-is (Sem m) (Sem n) h = ap Sem (eqb-true m n h)
same-name-is (Proc m) (Msg n) h = absurd (false≢true h)
same-name-is (Proc m) (Sem n) h = absurd (false≢true h)
same-name-is (Msg m) (Proc n) h = absurd (false≢true h)
same-name-is (Msg m) (Sem n) h = absurd (false≢true h)
same-name-is (Sem m) (Proc n) h = absurd (false≢true h)
same-name-is (Sem m) (Msg n) h = absurd (false≢true h)

pub other-name-is : (a b : Name) → is_same_name a b ≡ false → b ≢ a
other-name-is a b h e =
    false≢true (sym h ∙ subst (λ (c : Name). is_same_name a c ≡ true) (sym e) (same-name a))

-- names that differ are told apart by the test
pub other-name : (a b : Name) → b ≢ a → is_same_name a b ≡ false
other-name a b d = by (is_same_name a b) refl
  where
    by : (t : Bool) → is_same_name a b ≡ t → is_same_name a b ≡ false
    by true h = absurd (d (sym (same-name-is a b h)))
    by false h = h

-- two names are one, or they are two
pub name-cases : (a b : Name) → (a ≡ b) ⊎ (a ≢ b)
name-cases a b =
    elim (cases_Bool (is_same_name b a)) [
      | inl t ↦ inl (sym (same-name-is b a t))
      | inr f ↦ inr (other-name-is b a f)
    ]

-- ---- maps from names

-- a map from names has what was put in
pub get-put-same-name : {V : Type 0} (m : Named V) (a : Name) (v : V) → get_named (put_named m a v) a ≡ Some v
get-put-same-name m (Proc n) v = get-put-same m.processes n v
get-put-same-name m (Msg n) v = get-put-same m.queues n v
get-put-same-name m (Sem n) v = get-put-same m.sets n v

-- and at other names what it had
pub get-put-other-name : {V : Type 0} (m : Named V) (a : Name) (v : V) (b : Name) → b ≢ a
    → get_named (put_named m a v) b ≡ get_named m b
get-put-other-name m (Proc n) v (Proc q) d = get-put-other m.processes n v q (λ e. d (ap Proc e))
get-put-other-name m (Msg n) v (Msg q) d = get-put-other m.queues n v q (λ e. d (ap Msg e))
get-put-other-name m (Sem n) v (Sem q) d = get-put-other m.sets n v q (λ e. d (ap Sem e))
get-put-other-name m (Proc n) v (Msg q) d = refl
get-put-other-name m (Proc n) v (Sem q) d = refl
get-put-other-name m (Msg n) v (Proc q) d = refl
get-put-other-name m (Msg n) v (Sem q) d = refl
get-put-other-name m (Sem n) v (Proc q) d = refl
get-put-other-name m (Sem n) v (Msg q) d = refl

-- ---- the names that are put with a kernel's bodies

abbrev pub is_among : Name → List Name → Bool
is_among name names = list_any (is_same_name name) names
