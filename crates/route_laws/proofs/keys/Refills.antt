-- A node gives itself the next range of a kind, as the leader does: what holds of the kind, and of an unused name whose
-- number is in the range.
use Rattle.std.proofs.Common.{◌≡◌, ◌⊎◌, ℕ, ◌≤◌, Bool, true, false, ◌||◌, not, if◌then◌else◌, List, [], ◌∷◌, ◌++◌, nat_eq, Contains, Option, Some, None, is_some, refl, ap, sym, subst, ◌∙◌, inl, inr}
use Rattle.std.specs.List.{list_any}
use Rattle.std.proofs.lemmas.Bool.{eq-eqb, eqb-true, false≢true}
use Rattle.std.proofs.lemmas.List.Elements.{Contains-push_cases}
use Rattle.pico_base.specs.declared.numbers.Name.{Name}
use Rattle.pico_base.specs.declared.script.Script.{Script}
use Rattle.node_model.specs.Directory.{maker_in}
use Rattle.node_model.specs.Leases.{lease_of}
use Rattle.world_laws.specs.Plays.{believed, is_there}
use Rattle.world_laws.specs.Names.{IsTold, NameHolds, NameSight, PlaysTo, belief_of, maker_tells}
use Rattle.world_laws.specs.Ranges.{IsRangeOf, IsRestOf, KindHolds, KindSight, is_given, is_in_lease}
use Rattle.world_laws.proofs.Numbers.{maker-in-range}
use Rattle.world_laws.proofs.NewRanges.{maker-elsewhere, maker-stays, range-of-next, unmade-next, upcoming_in}
use Rattle.rule_laws.proofs.own.NewNames.{nobody-in}

-- ---- the kind

-- the next range is to be taken at the node
abbrev pub refilled : KindSight → ℕ → KindSight
refilled x node =
    record x {
      leases = λ h. if nat_eq h node then lease_of (upcoming_in x.ranges) else x.leases h;
      ranges = x.ranges ++ node ∷ [];
    }

range-stays : (ranges : List ℕ) (node first maker : ℕ) → IsRangeOf ranges first maker
    → IsRangeOf (ranges ++ node ∷ []) first maker
range-stays ranges node first maker r =
    record { index = r.index; first_is = r.first_is; maker = maker-stays ranges node first maker r.maker }

rest-stays : (ranges : List ℕ) (node : ℕ) (ns : List ℕ) (maker : ℕ) → IsRestOf ranges ns maker
    → IsRestOf (ranges ++ node ∷ []) ns maker
rest-stays ranges node ns maker r =
    record {
      first = r.first;
      range = range-stays ranges node r.first maker r.range;
      taken = r.taken;
      rest = r.rest;
    }

module _ (born : ℕ → Bool) (x : KindSight) (node : ℕ) (k : KindHolds born x) (is_born : born node ≡ true)
    (none : x.leases node ≡ []) where
  abbrev y : KindSight
  y = refilled x node

  abbrev up : ℕ
  up = upcoming_in x.ranges

  -- a number outside the range is to be taken where it was
  still-there : (number h : ℕ) → is_in_lease number up ≡ false → (t : Bool) → nat_eq h node ≡ t
      → list_any (nat_eq number) (if t then lease_of up else x.leases h) ≡ list_any (nat_eq number) (x.leases h)
  still-there number h away true e =
      away
      ∙ sym (ap (λ q. list_any (nat_eq number) (x.leases q)) (eqb-true h node e) ∙ ap (list_any (nat_eq number)) none)
  still-there number h away false e = refl

  given-same : (number : ℕ) (made_by : Option ℕ) → is_in_lease number up ≡ false
      → is_given y number made_by ≡ is_given x number made_by
  given-same number None away = refl
  given-same number (Some h) away =
      ap (λ t. not (t || list_any (is_in_lease number) (x.coming h))) (still-there number h away (nat_eq h node) refl)

  used-now : (number : ℕ) (t : Bool) → is_in_lease number up ≡ t
      → x.used number ≡ is_given y number (maker_in (x.ranges ++ node ∷ []) number)
  used-now number true inside =
      k.used number ∙ ap (is_given x number) (unmade-next x.ranges number inside)
      ∙ sym (ap (is_given y number)
      (maker-in-range (x.ranges ++ node ∷ []) up node number (range-of-next x.ranges node) inside)
      ∙ ap (λ t. not (list_any (nat_eq number) (if t then lease_of up else x.leases node)
      || list_any (is_in_lease number) (x.coming node))) (eq-eqb node node refl)
      ∙ ap (λ t. not (t || list_any (is_in_lease number) (x.coming node))) inside)
  used-now number false away =
      k.used number ∙ sym (given-same number (maker_in x.ranges number) away)
      ∙ ap (is_given y number) (sym (maker-elsewhere x.ranges node number away))

  leases-by : (h : ℕ) → 1 ≤ h → (t : Bool) → nat_eq h node ≡ t
      → ((if t then lease_of up else x.leases h) ≡ [])
      ⊎ IsRestOf (x.ranges ++ node ∷ []) (if t then lease_of up else x.leases h) h
  leases-by h low true e =
      inr
      (subst (λ q. IsRestOf (x.ranges ++ node ∷ []) (lease_of up) q) (sym (eqb-true h node e))
      (record { first = up; range = range-of-next x.ranges node; taken = 0; rest = refl }))
  leases-by h low false e =
      elim (k.leases h low) [
        | inl over ↦ inl over
        | inr r ↦ inr (rest-stays x.ranges node (x.leases h) h r)
      ]

  -- All still holds of the kind.
  pub kind-refilled : KindHolds born (refilled x node)
  kind-refilled =
      record {
        used = λ number. used-now number (is_in_lease number up) refl;
        leases = λ h low. leases-by h low (nat_eq h node) refl;
        coming = λ h first there. range-stays x.ranges node first h (k.coming h first there);
        one_coming = k.one_coming;
        to_born = λ q there. elim (Contains-push_cases x.ranges node q there) [
          | inl old ↦ k.to_born q old
          | inr new ↦ subst (λ z. born z ≡ true) new is_born
        ];
      }

-- ---- a name

-- this node has its number's range
abbrev pub made_by : NameSight → Option ℕ → NameSight
made_by x maker = record x { maker = maker }

module _ (script : Script) (pids : ℕ → ℕ) (born : ℕ → Bool) (name : Name) (x : NameSight)
    (h : NameHolds script pids born name x) (node : ℕ) (unused : x.used ≡ false) where
  not-used : x.used ≡ true → ⊥
  not-used e = false≢true (sym unused ∙ e)

  -- nobody tells the place of an unused name
  pub none-tells : (q : ℕ) → x.placed q ≡ []
  none-tells q = nobody-in (x.placed q) (λ v there. tells-not q v there)
    where
      tells-not : (q v : ℕ) → Contains (x.placed q) v → ⊥
      tells-not q v there =
          let told : IsTold pids name x.used x.maker q v = h.told q v there
          in not-used told.used

  belief-same : x.maker ≡ None → belief_of (made_by x (Some node)) ≡ belief_of x
  belief-same unmade =
      ap (believed x.place) (none-tells node) ∙ sym (ap (λ m. believed x.place (maker_tells x m)) unmade)

  no-maker : (q : ℕ) → None ≡ Some q → ⊥
  no-maker q e = cc

  -- All still holds of an unused name that had no maker.
  pub name-given-out : x.maker ≡ None → NameHolds script pids born name (made_by x (Some node))
  name-given-out unmade =
      record {
        parts = h.parts;
        callers = h.callers;
        made = h.made;
        place_fits = h.place_fits;
        tables = h.tables;
        streams = h.streams;
        kept = h.kept;
        in_hand = h.in_hand;
        known = h.known;
        believed = λ used. absurd (not-used used);
        plays = λ q low. subst (λ v. PlaysTo (x.begins q) (x.steps q) (is_there q v)) (sym (belief-same unmade))
            (h.plays q low);
        leader = subst (λ v. is_some (x.held 1) ≡ is_there 1 v) (sym (belief-same unmade)) h.leader;
        told = λ sender v there. absurd (told-not sender v there);
        found = h.found;
        unplaced = λ used e. absurd (not-used used);
        ranged = λ q there. absurd (no-maker q (sym unmade ∙ h.ranged q there));
        leased = h.leased;
        bound = h.bound;
        items = h.items;
      }
    where
      told-not : (sender v : ℕ) → Contains (x.placed sender) v → ⊥
      told-not sender v there =
          let told : IsTold pids name x.used x.maker sender v = h.told sender v there
          in not-used told.used
