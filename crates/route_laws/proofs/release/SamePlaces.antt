-- What is put twice at a name, or put and taken out again.
use Rattle.std.proofs.Common.{◌≡◌, ◌≢◌, ℕ, not, [], ◌∷◌, nat_eq, Some, None, is_some, refl, ap, sym, ◌∙◌, inl, inr, arith}
use Rattle.std.proofs.lemmas.Bool.{cases_order, cases_eq, eq-eqb, ne_eqb, false≢true}
use Rattle.pico_base.specs.declared.numbers.Name.{Name}
use Rattle.pico_base.specs.declared.numbers.Name.TheVariants.{Proc, Msg, Sem}
use Rattle.number_maps.specs.Maps.{Numbered, get, put, without}
use Rattle.number_maps.proofs.LookUps.{get-first, get-later, put-less, put-equal, put-greater, filter-kept, filter-dropped}
use Rattle.node_model.specs.Kinds.{Named, get_named, put_named, without_named}

some-is-none : {V : Type 0} (v : V) → Some v ≡ None → ⊥
some-is-none v e = false≢true (sym (ap is_some e))

-- nothing is taken out where nothing is
without-none : {V : Type 0} (m : Numbered V) (k : ℕ) → get m k ≡ None → without m k ≡ m
without-none [] k none = refl
without-none (e ∷ m) k none =
    elim (cases_eq k e.0) [
      | inl same ↦ absurd (some-is-none e.1 (sym (get-first e m k same) ∙ none))
      | inr ne ↦
          filter-kept (λ f. not (nat_eq k f.0)) e m (ap not (ne_eqb k e.0 ne))
          ∙ ap (λ r. e ∷ r) (without-none m k (sym (get-later e m k ne) ∙ none))
    ]

-- what is put where nothing was, and taken out again
without-put : {V : Type 0} (m : Numbered V) (k : ℕ) (v : V) → get m k ≡ None → without (put m k v) k ≡ m
without-put [] k v none = filter-dropped (λ f. not (nat_eq k f.0)) (k, v) [] (ap not (eq-eqb k k refl))
without-put (e ∷ m) k v none =
    elim (cases_order k e.0) [
      | inl same ↦ absurd (some-is-none e.1 (sym (get-first e m k same) ∙ none))
      | inr c ↦
          elim c [
            | inl l ↦
                ap (λ r. without r k) (put-less e m k v l)
                ∙ filter-dropped (λ f. not (nat_eq k f.0)) (k, v) (e ∷ m) (ap not (eq-eqb k k refl))
                ∙ without-none (e ∷ m) k none
            | inr g ↦
                let ne : k ≢ e.0 = omega arith
                in ap (λ r. without r k) (put-greater e m k v g)
                ∙ filter-kept (λ f. not (nat_eq k f.0)) e (put m k v) (ap not (ne_eqb k e.0 ne))
                ∙ ap (λ r. e ∷ r) (without-put m k v (sym (get-later e m k ne) ∙ none))
          ]
    ]

-- the second of two is there
put-twice : {V : Type 0} (m : Numbered V) (k : ℕ) (u v : V) → put (put m k u) k v ≡ put m k v
put-twice [] k u v = put-equal (k, u) [] k v refl
put-twice (e ∷ m) k u v =
    elim (cases_order k e.0) [
      | inl same ↦
          ap (λ r. put r k v) (put-equal e m k u same)
          ∙ put-equal (e.0, u) m k v same ∙ sym (put-equal e m k v same)
      | inr c ↦
          elim c [
            | inl l ↦
                ap (λ r. put r k v) (put-less e m k u l)
                ∙ put-equal (k, u) (e ∷ m) k v refl ∙ sym (put-less e m k v l)
            | inr g ↦
                ap (λ r. put r k v) (put-greater e m k u g)
                ∙ put-greater e (put m k u) k v g ∙ ap (λ r. e ∷ r) (put-twice m k u v)
                ∙ sym (put-greater e m k v g)
          ]
    ]

-- What is put at a name where nothing was, and taken out again, leaves the map.
pub without-put-name : {V : Type 0} (m : Named V) (name : Name) (v : V) → get_named m name ≡ None
    → without_named (put_named m name v) name ≡ m
without-put-name m (Proc n) v none = λ i. record m { processes = without-put m.processes n v none i }
without-put-name m (Msg n) v none = λ i. record m { queues = without-put m.queues n v none i }
without-put-name m (Sem n) v none = λ i. record m { sets = without-put m.sets n v none i }

-- Of two values that are put at a name the second is there.
pub put-twice-name : {V : Type 0} (m : Named V) (name : Name) (u v : V)
    → put_named (put_named m name u) name v ≡ put_named m name v
put-twice-name m (Proc n) u v = λ i. record m { processes = put-twice m.processes n u v i }
put-twice-name m (Msg n) u v = λ i. record m { queues = put-twice m.queues n u v i }
put-twice-name m (Sem n) u v = λ i. record m { sets = put-twice m.sets n u v i }
