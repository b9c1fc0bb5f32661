-- The index from identifiers to keys stays in agreement with the bindings.
use Rattle.std.proofs.Common.{◌≡◌, ℕ, Bool, true, false, cond, nat_eq, Option, Some, None, IsTrue, is_some, ◌↔◌, refl, sym, ap, ◌∙◌, ⊎_elim, arith}
use Rattle.std.proofs.lemmas.Bool.{false≢true}
use Rattle.std.proofs.lemmas.Bool.Decides.{nat_tests, eqb_tells}
use Rattle.key_table.specs.declared.Bound.{Bound}
use Rattle.key_table.specs.Agreement.{Agree}
use Rattle.key_table.specs.KeyMap.{is_bound_to}

one_id : (x : Option Bound) (i j : ℕ) → is_bound_to i x ≡ true → is_bound_to j x ≡ true → i ≡ j
one_id None i j p q = absurd (false≢true p)
one_id (Some b) i j p q = grind (arith, nat_tests)

not_true : (t : Bool) → (t ≡ true → ⊥) → t ≡ false
not_true true h = absurd (h refl)
not_true false h = refl

module _ (bound bound' : ℕ → Option Bound) (key_of key_of' : ℕ → Option ℕ) (agree : Agree bound key_of) where
  -- a key that wasn't bound is bound to an identifier that had none
  pub agree-bound : (k : ℕ) (b : Bound) → bound k ≡ None → ((q : ℕ) → IsTrue (is_bound_to b.id (bound q)) → ⊥)
      → ((q : ℕ) → bound' q ≡ cond (nat_eq k q) (Some b) (bound q))
      → ((i : ℕ) → key_of' i ≡ cond (nat_eq b.id i) (Some k) (key_of i)) → Agree bound' key_of'
  agree-bound k b unbound absent keys ids id q =
      ⊎_elim
      (λ key. ⊎_elim
      (λ one.
      let at_key : bound' q ≡ Some b = keys q ∙ rw key.0 refl in
      let at_id : key_of' id ≡ Some k = ids id ∙ rw one.0 refl in
      (λ h. at_id ∙ ap Some key.1, λ h. rw at_key one.0))
      (λ other.
      let at_key : bound' q ≡ Some b = keys q ∙ rw key.0 refl in
      let at_id : key_of' id ≡ key_of id = ids id ∙ rw other.0 refl in
      let none : bound q ≡ None = ap bound (sym key.1) ∙ unbound in (
        λ h. absurd (false≢true (sym other.0 ∙ ap (is_bound_to id) (sym at_key) ∙ h)),
        λ h. absurd (false≢true (ap (is_bound_to id) (sym none) ∙ (agree id q).1 (sym at_id ∙ h))),
      ))
      (eqb_tells b.id id))
      (λ other_key. ⊎_elim
      (λ one.
      let at_key : bound' q ≡ bound q = keys q ∙ rw other_key.0 refl in
      let at_id : key_of' id ≡ Some k = ids id ∙ rw one.0 refl in (
        λ h. absurd (absent q (ap (λ (i : ℕ). is_bound_to i (bound q)) one.1 ∙ ap (is_bound_to id) (sym at_key) ∙ h)),
        λ h. absurd (other_key.1 (cc)),
      ))
      (λ other.
      let at_key : bound' q ≡ bound q = keys q ∙ rw other_key.0 refl in
      let at_id : key_of' id ≡ key_of id = ids id ∙ rw other.0 refl in
      rw (at_key, at_id) (agree id q))
      (eqb_tells b.id id))
      (eqb_tells k q)

  -- the key of an identifier is unbound, and the identifier has none
  pub agree-unbound : (k id : ℕ) → key_of id ≡ Some k → ((q : ℕ) → bound' q ≡ cond (nat_eq k q) None (bound q))
      → ((i : ℕ) → key_of' i ≡ cond (nat_eq id i) None (key_of i)) → Agree bound' key_of'
  agree-unbound k id was keys ids i q =
      ⊎_elim
      (λ key.
      let at_key : bound' q ≡ None = keys q ∙ rw key.0 refl in
      ⊎_elim
      (λ one.
      let at_id : key_of' i ≡ None = ids i ∙ rw one.0 refl in
      (λ h. absurd (false≢true (ap (is_bound_to i) (sym at_key) ∙ h)), λ h. absurd (cc)))
      (λ other.
      let at_id : key_of' i ≡ key_of i = ids i ∙ rw other.0 refl in (
        λ h. absurd (false≢true (ap (is_bound_to i) (sym at_key) ∙ h)),
        λ h. absurd (other.1 (one_id (bound k) id i ((agree id k).1 was)
            ((agree i k).1 (sym at_id ∙ h ∙ ap Some (sym key.1))))),
      ))
      (eqb_tells id i))
      (λ other_key.
      let at_key : bound' q ≡ bound q = keys q ∙ rw other_key.0 refl in
      ⊎_elim
      (λ one.
      let at_id : key_of' i ≡ None = ids i ∙ rw one.0 refl in (
        λ h.
            let there : key_of i ≡ Some q = (agree i q).0 (ap (is_bound_to i) (sym at_key) ∙ h) in
            let here : key_of i ≡ Some k = ap key_of (sym one.1) ∙ was in
            absurd (other_key.1 (cc)),
        λ h. absurd (cc),
      ))
      (λ other.
      let at_id : key_of' i ≡ key_of i = ids i ∙ rw other.0 refl in
      rw (at_key, at_id) (agree i q))
      (eqb_tells id i))
      (eqb_tells k q)

module _ (bound : ℕ → Option Bound) (key_of : ℕ → Option ℕ) (agree : Agree bound key_of) where
  -- the identifier's key alone is bound to it
  pub alone : (k id : ℕ) → key_of id ≡ Some k → (q : ℕ) → nat_eq k q ≡ is_bound_to id (bound q)
  alone k id was q =
      ⊎_elim
      (λ key. key.0 ∙ sym ((agree id q).1 (was ∙ ap Some key.1)))
      (λ other. other.0 ∙ sym (not_true _ (λ h.
      let there : key_of id ≡ Some q = (agree id q).0 h in
      other.1 (cc))))
      (eqb_tells k q)

  -- no key is bound to an identifier that has none
  pub nobody : (id : ℕ) → key_of id ≡ None → (q : ℕ) → false ≡ is_bound_to id (bound q)
  nobody id none q = sym (not_true _ (λ h.
      let there : key_of id ≡ Some q = (agree id q).0 h in
      absurd (cc)))

  -- an identifier has a key exactly where some key is bound to it
  pub has_one : (id : ℕ) (key : Option ℕ) → key_of id ≡ key
      → IsTrue (is_some key) ↔ ((q : ℕ) × IsTrue (is_bound_to id (bound q)))
  has_one id None none =
      (λ never. absurd (false≢true never), λ held. absurd (false≢true (nobody id none held.0 ∙ held.1)))
  has_one id (Some key) there = (λ _. (key, (agree id key).1 there), λ _. refl)
