-- A world goes on by schedule 0, event by event.
use Rattle.std.proofs.Common.{◌≡◌, ℕ, ◌≤◌, true, List, [], ◌∷◌, ◌++◌, Option, Some, None, refl, sym, subst, ◌∙◌}
use Rattle.std.specs.Prelude.{IfSome, IsSome}
use Rattle.pico_base.specs.declared.script.Event.{Event}
use Rattle.pico_base.specs.declared.script.Script.{Script}
use Rattle.world_model.specs.World.{World, size, node_count, step, is_enabled}
use Rattle.world_model.specs.Schedule.{InTurn, choice, in_turn, node_of}
use Rattle.world_core.specs.Stepped.{IsStepped}
use Rattle.pico_cmd.specs.Taking.{Takes}
use Rattle.pico_cmd.specs.Thawed.{GoesOn}
use Rattle.pico_cmd.proofs.Chosen.{IsNext, choice_next}
use Rattle.pico_cmd.proofs.Runs.{Takes-more, Takes-end, step_script}

-- what holds of a world that is there
pub of_some : (P : World → Type 0) (o : Option World) (w : World) → o ≡ Some w → IfSome o P → P w
of_some P o w is h = subst (λ (x : Option World). IfSome x P) is h

-- and the other way round
pub if_some : (P : World → Type 0) (o : Option World) (w : World) → o ≡ Some w → P w → IfSome o P
if_some P o w is h = subst (λ (x : Option World). IfSome x P) (sym is) h

-- from the old world events were taken in turn, and the last of them was of this node
pub record IsOnward (old : Option World) (behind : ℕ) (world : Option World) (last : ℕ) : Type 0 where
  pub from : World
  pub old_is : old ≡ Some from
  pub now : World
  pub now_is : world ≡ Some now
  pub taken : List Event
  pub takes : Takes from (InTurn behind) taken now (InTurn last)
  pub within : last ≤ size now

-- it begins
pub IsOnward-start : (old : Option World) (behind : ℕ) → IsSome old → IfSome old (λ w. behind ≤ size w)
    → IsOnward old behind old behind
IsOnward-start None behind there le = absurd (let f : ⊥ = cc in f)
IsOnward-start (Some w) behind there le =
    record { from = w; old_is = refl; now = w; now_is = refl; taken = []; takes = (refl, refl); within = le }

module _ (old : Option World) (behind : ℕ) (world : Option World) (last : ℕ) (o : IsOnward old behind world last) where
  -- the world is there
  pub onward_is_there : IsSome world
  onward_is_there = subst (λ (x : Option World). IsSome x) (sym o.now_is) refl

  -- the last event was of one of its nodes
  pub onward_is_within : IfSome world (λ w. last ≤ size w)
  onward_is_within = if_some (λ w. last ≤ size w) world o.now o.now_is o.within

  chosen : (r : Option Event) → IfSome world (λ w. r ≡ in_turn w last) → choice o.now (InTurn last) ≡ r
  chosen r is = sym (of_some (λ w. r ≡ in_turn w last) world o.now o.now_is is)

  next : (r : Option Event) (e : Event) → IfSome world (λ w. r ≡ in_turn w last) → r ≡ Some e
      → IsNext o.now (size o.now) e
  next r e is some = choice_next o.now (InTurn last) e o.within (chosen r is ∙ some)

  -- the event that comes next is enabled
  pub onward_is_enabled : (r : Option Event) (e : Event) → IfSome world (λ w. r ≡ in_turn w last) → r ≡ Some e
      → IfSome world (λ w. is_enabled w e ≡ true)
  onward_is_enabled r e is some =
      if_some (λ w. is_enabled w e ≡ true) world o.now o.now_is (next r e is some).enabled

  -- one event more
  pub IsOnward-more : (new : Option World) (r : Option Event) (e : Event) (node : ℕ)
      → IfSome world (λ w. r ≡ in_turn w last) → r ≡ Some e → IsStepped world e new → node ≡ node_of e
      → IsOnward old behind new node
  IsOnward-more new r e node is some s own =
      let same : s.0 ≡ o.now = (let e : Some s.0 ≡ Some o.now = sym s.2 ∙ o.now_is in cc) in
      let stepped : step o.now e ≡ Some s.1 = subst (λ (x : World). step x e ≡ Some s.1) same s.4 in
      let script : s.1.script ≡ o.now.script = step_script o.now e s.1 stepped in
      let le : node_of e ≤ size s.1 =
      subst (λ (x : Script). node_of e ≤ node_count x) (sym script) (next r e is some).within in
      subst (λ (n : ℕ). IsOnward old behind new n) (sym own)
      (record {
        from = o.from;
        old_is = o.old_is;
        now = s.1;
        now_is = s.3;
        taken = o.taken ++ e ∷ [];
        takes =
            Takes-more o.from (InTurn behind) o.taken o.now (InTurn last) e s.1 o.takes (chosen r is ∙ some) stepped;
        within = le;
      })

  -- it ends
  pub IsOnward-end : (r : Option Event) → IfSome world (λ w. r ≡ in_turn w last) → r ≡ None
      → GoesOn old behind world
  IsOnward-end r is none =
      record {
        from = o.from;
        old_is = o.old_is;
        further = o.taken;
        last = o.now;
        new_is = o.now_is;
        follows = Takes-end o.from (InTurn behind) o.taken o.now (InTurn last) o.takes (chosen r is ∙ none);
      }
