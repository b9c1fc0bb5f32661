-- Something new in the leader's table, where the leader knows it: what holds of its name.
use Rattle.std.proofs.Common.{◌≡◌, ℕ, ◌≤◌, Bool, true, false, if◌then◌else◌, nat_eq, List, [], Contains, Option, Some, None, refl, ap, sym, subst, ◌∙◌, arith}
use Rattle.std.proofs.lemmas.Bool.{ne_eqb, false≢true}
use Rattle.pico_base.specs.declared.numbers.Name.{Name}
use Rattle.pico_base.specs.declared.script.Script.{Script}
use Rattle.node_model.specs.Bodies.{Body}
use Rattle.node_model.specs.Directory.{Place, At}
use Rattle.world_laws.specs.Places.{DeedPlace, Unmade, InTable}
use Rattle.world_laws.specs.Plays.{Hold, Has, Nowhere, PlayStep, believed, is_there, told}
use Rattle.world_laws.specs.Names.{IsBringer, IsItemWith, IsSentThere, IsTold, NameHolds, NameSight, OneIf, PlaysTo, RangeStep, belief_of, forker, held_as, is_hand_place, is_kept_for, is_stream_of, leases_first, maker_tells, node_in}
use Rattle.rule_laws.proofs.own.NewNames.{is-unplaced}
use Rattle.rule_laws.proofs.own.Rebodied.{IsBodyOf}
use Rattle.route_laws.proofs.keys.Refills.{none-tells}

-- the leader has it in its table, and knows that; this is what is on its way to nodes then
abbrev pub at_leader : NameSight → Body → (ℕ → List PlayStep) → (ℕ → List RangeStep) → NameSight
at_leader x body steps ranges =
    record x {
      place = Some (At 1);
      used = true;
      part = body;
      body = body;
      deed = InTable 1;
      held = held_as (InTable 1) body;
      begins = λ q. if nat_eq q 1 then Has else x.begins q;
      steps = steps;
      ranges = ranges;
    }

-- to other nodes the same is played, and nothing more was sent by the range of its number
pub record GoesAsBefore (x : NameSight) (steps : ℕ → List PlayStep) (ranges : ℕ → List RangeStep) : Type 0 where
  pub steps_are : (q : ℕ) → 2 ≤ q → steps q ≡ x.steps q
  pub ranged : (q : ℕ) → Contains (ranges q) IsSentThere → Contains (x.ranges q) IsSentThere
  pub leased : (q : ℕ) → leases_first (x.ranges q) ≡ true → leases_first (ranges q) ≡ true

in-table-not : InTable 1 ≡ Unmade → ⊥
in-table-not h = cc

known-not : (place : Place) → Some place ≡ None → ⊥
known-not place h = cc

none-bound : (to : ℕ) → None ≡ Some to → ⊥
none-bound to h = cc

module _ (script : Script) (pids : ℕ → ℕ) (born : ℕ → Bool) (name : Name) (x : NameSight)
    (h : NameHolds script pids born name x) (body : Body) (is_body : IsBodyOf script body body)
    (steps : ℕ → List PlayStep) (ranges : ℕ → List RangeStep) (goes : GoesAsBefore x steps ranges)
    (unused : x.used ≡ false) where
  abbrev y : NameSight
  y = at_leader x body steps ranges

  not-used : x.used ≡ true → ⊥
  not-used e = false≢true (sym unused ∙ e)

  -- an unused name isn't known
  pub not-known : x.place ≡ None
  not-known = is-unplaced x.place (λ e. not-used (h.known e))

  -- it is nowhere
  pub deed-was : x.deed ≡ Unmade
  deed-was = h.made.1 unused

  told-not : (sender v : ℕ) → Contains (x.placed sender) v → ⊥
  told-not sender v there =
      let told : IsTold pids name x.used x.maker sender v = h.told sender v there
      in not-used told.used

  nobody-tells : (o : Option ℕ) → maker_tells x o ≡ []
  nobody-tells None = refl
  nobody-tells (Some q) = none-tells script pids born name x h q unused q

  belief-was : belief_of x ≡ Nowhere
  belief-was = ap (λ o. believed o (maker_tells x x.maker)) not-known ∙ ap told (nobody-tells x.maker)

  begins-is : (q : ℕ) → 2 ≤ q → (if nat_eq q 1 then Has else x.begins q) ≡ x.begins q
  begins-is q low = ap (λ t. if t then Has else x.begins q) (ne_eqb q 1 (λ e. omega (arith, e, low)))

  plays-now : (q : ℕ) → 2 ≤ q → PlaysTo (y.begins q) (steps q) (is_there q (belief_of y))
  plays-now q low =
      subst (λ ss. PlaysTo (y.begins q) ss (nat_eq 1 q)) (sym (goes.steps_are q low))
      (subst (λ (b : Hold). PlaysTo b (x.steps q) (nat_eq 1 q)) (sym (begins-is q low))
      (subst (λ t. PlaysTo (x.begins q) (x.steps q) t)
      (ap (is_there q) belief-was ∙ sym (ne_eqb 1 q (λ e. omega (arith, e, low)))) (h.plays q low)))

  -- All holds of it.
  pub name-at-leader : NameHolds script pids born name (at_leader x body steps ranges)
  name-at-leader =
      record {
        parts = is_body.parts;
        callers = is_body.callers;
        made = (λ e. absurd (in-table-not e), λ u. absurd (false≢true (sym u)));
        place_fits = refl;
        tables = λ q. refl;
        streams = λ to sender. subst (λ (d : DeedPlace). OneIf (is_stream_of (forker script) d to sender)
            (IsBringer pids name x.body d) (x.brought to sender)) deed-was (h.streams to sender);
        kept = λ pid. subst (λ (d : DeedPlace). OneIf (is_kept_for (forker script) pids d pid)
            (IsItemWith name x.body (pids (node_in d))) (x.kept pid)) deed-was (h.kept pid);
        in_hand = subst (λ (d : DeedPlace). OneIf (is_hand_place d) (IsItemWith name x.body (pids (node_in d))) x.hand)
            deed-was h.in_hand;
        known = λ e. refl;
        believed = λ u. refl;
        plays = plays-now;
        leader = refl;
        told = λ sender node there. absurd (told-not sender node there);
        found = λ q low. refl;
        unplaced = λ u e. absurd (known-not (At 1) e);
        ranged = λ q there. h.ranged q (goes.ranged q there);
        leased = λ q low. goes.leased q (h.leased q low);
        bound = λ to e. absurd (none-bound to e);
        items = tt;
      }
