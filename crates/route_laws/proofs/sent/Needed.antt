-- A Forward at the head of the leader's stream to a node, for the name that its call is on: sent by the name's place
-- it finds the deed there; sent by the range of the number it is at the maker, and no such numbers stand behind it.
use Rattle.std.proofs.Common.{◌≡◌, ◌≢◌, ℕ, ◌≤◌, Bool, true, false, List, [], ◌∷◌, ◌++◌, Contains, Some, refl, ap, sym, subst, ◌∙◌, inl, inr}
use Rattle.std.proofs.lemmas.Bool.{cases_eq, false≢true}
use Rattle.std.proofs.lemmas.List.Elements.{Contains-append_left, Contains-append_right, Contains-push}
use Rattle.pico_base.specs.declared.numbers.Name.{Name}
use Rattle.pico_base.specs.declared.script.Script.{Script}
use Rattle.world_laws.specs.Plays.{Has, PlayStep, IsNeeded, play, steps_if}
use Rattle.world_laws.specs.Names.{NameHolds, NameSight, PlaysTo, RangeStep, IsLeased, IsSentThere, belief_of, leases_first, range_steps_if}
use Rattle.world_laws.specs.Plays.{is_there}
use Rattle.world_laws.proofs.NameFacts.{play-needs}

leases-first-of-rest : (sent : Bool) (rs : List RangeStep) → leases_first (range_steps_if sent IsSentThere ++ rs) ≡ true
    → leases_first rs ≡ true
leases-first-of-rest false rs h = h
leases-first-of-rest true [] h = refl
leases-first-of-rest true (IsSentThere ∷ rs) h = h
leases-first-of-rest true (IsLeased ∷ rs) h = absurd (false≢true h)

-- no lease with the name's number is among these
abbrev pub has_no_lease : List RangeStep → Bool
has_no_lease [] = true
has_no_lease (IsSentThere ∷ rs) = has_no_lease rs
has_no_lease (IsLeased ∷ rs) = false

-- none stands behind a call that was sent by range
pub none-leased-behind : (rs : List RangeStep) → leases_first (IsSentThere ∷ rs) ≡ true → has_no_lease rs ≡ true
none-leased-behind [] h = refl
none-leased-behind (IsSentThere ∷ rs) h = none-leased-behind rs h
none-leased-behind (IsLeased ∷ rs) h = absurd (false≢true h)

-- what stands at the head of the stream to node p, and what is left
pub record HasHead (x : NameSight) (p : ℕ) (needs sent : Bool) (steps : ℕ → List PlayStep)
    (ranges : ℕ → List RangeStep) : Type 0 where
  pub steps_here : x.steps p ≡ steps_if needs IsNeeded ++ steps p
  pub steps_there : (y : ℕ) → y ≢ p → steps y ≡ x.steps y
  pub ranges_here : x.ranges p ≡ range_steps_if sent IsSentThere ++ ranges p
  pub ranges_there : (y : ℕ) → y ≢ p → ranges y ≡ x.ranges y

module _ (script : Script) (pids : ℕ → ℕ) (born : ℕ → Bool) (name : Name) (x : NameSight)
    (h : NameHolds script pids born name x) (p : ℕ) (low : 2 ≤ p) (needs sent : Bool) (steps : ℕ → List PlayStep)
    (ranges : ℕ → List RangeStep) (head : HasHead x p needs sent steps ranges) where
  old-play : PlaysTo (x.begins p) (steps_if needs IsNeeded ++ steps p) (is_there p (belief_of x))
  old-play = subst (λ ss. PlaysTo (x.begins p) ss (is_there p (belief_of x))) head.steps_here (h.plays p low)

  -- what a call sent by place needs is there
  pub needed-begins : needs ≡ true → x.begins p ≡ Has
  needed-begins e =
      let old : PlaysTo (x.begins p) (IsNeeded ∷ steps p) (is_there p (belief_of x)) =
      subst (λ t. PlaysTo (x.begins p) (steps_if t IsNeeded ++ steps p) (is_there p (belief_of x))) e old-play
      in (play-needs (x.begins p) old.last (steps p) old.plays).0

  plays-on : (t : Bool) → PlaysTo (x.begins p) (steps_if t IsNeeded ++ steps p) (is_there p (belief_of x))
      → PlaysTo (x.begins p) (steps p) (is_there p (belief_of x))
  plays-on false old = old
  plays-on true old =
      let both = play-needs (x.begins p) old.last (steps p) old.plays
      in record {
        last = old.last;
        plays = ap (λ z. play z (steps p)) both.0 ∙ both.1;
        agrees = old.agrees;
      }

  plays-now : (y : ℕ) → 2 ≤ y → PlaysTo (x.begins y) (steps y) (is_there y (belief_of x))
  plays-now y low_y =
      elim (cases_eq y p) [
        | inl e ↦
            subst (λ z. PlaysTo (x.begins z) (steps z) (is_there z (belief_of x))) (sym e) (plays-on needs old-play)
        | inr d ↦
            subst (λ ss. PlaysTo (x.begins y) ss (is_there y (belief_of x))) (sym (head.steps_there y d))
            (h.plays y low_y)
      ]

  ranged-now : (y : ℕ) → Contains (ranges y) IsSentThere → x.maker ≡ Some y
  ranged-now y there =
      elim (cases_eq y p) [
        | inl e ↦
            h.ranged y
            (subst (λ z. Contains (x.ranges z) IsSentThere) (sym e)
            (subst (λ rs. Contains rs IsSentThere) (sym head.ranges_here)
            (Contains-append_right (range_steps_if sent IsSentThere) (ranges p) IsSentThere
            (subst (λ z. Contains (ranges z) IsSentThere) e there))))
        | inr d ↦ h.ranged y (subst (λ rs. Contains rs IsSentThere) (head.ranges_there y d) there)
      ]

  leased-here : leases_first (range_steps_if sent IsSentThere ++ ranges p) ≡ true
  leased-here = ap leases_first (sym head.ranges_here) ∙ h.leased p low

  leased-now : (y : ℕ) → 2 ≤ y → leases_first (ranges y) ≡ true
  leased-now y low_y =
      elim (cases_eq y p) [
        | inl e ↦
            subst (λ z. leases_first (ranges z) ≡ true) (sym e)
            (leases-first-of-rest sent (ranges p) leased-here)
        | inr d ↦ ap leases_first (head.ranges_there y d) ∙ h.leased y low_y
      ]

  -- a call sent by range is at the maker
  pub sent-to-maker : sent ≡ true → x.maker ≡ Some p
  sent-to-maker e =
      h.ranged p
      (subst (λ rs. Contains rs IsSentThere)
      (sym (head.ranges_here ∙ ap (λ t. range_steps_if t IsSentThere ++ ranges p) e))
      (first-there (ranges p)))
    where
      first-there : (rs : List RangeStep) → Contains (IsSentThere ∷ rs) IsSentThere
      first-there rs = Contains-append_left (IsSentThere ∷ []) rs IsSentThere (Contains-push [] IsSentThere)

  -- All holds of the name with what is left.
  pub name-head-taken : NameHolds script pids born name (record x { steps = steps; ranges = ranges })
  name-head-taken =
      record {
        parts = h.parts;
        callers = h.callers;
        made = h.made;
        place_fits = h.place_fits;
        tables = h.tables;
        streams = h.streams;
        kept = h.kept;
        in_hand = h.in_hand;
        known = h.known;
        believed = h.believed;
        plays = plays-now;
        leader = h.leader;
        told = h.told;
        found = h.found;
        unplaced = h.unplaced;
        ranged = ranged-now;
        leased = leased-now;
        bound = h.bound;
        items = h.items;
      }
