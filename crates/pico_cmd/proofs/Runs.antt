-- A run as it goes on, event by event.
use Rattle.std.proofs.Common.{◌≡◌, ℕ, ◌≤◌, true, List, [], ◌∷◌, ◌++◌, take, Bool, false, nat_eq, if◌then◌else◌, Option, Some, None, refl, sym, ap, subst, ◌∙◌, arith}
use Rattle.pico_base.specs.declared.script.Event.{Event}
use Rattle.pico_base.specs.declared.script.Event.TheVariants as events
use Rattle.pico_base.specs.declared.script.Script.{Script}
use Rattle.rpc_frame.specs.declared.frame.Frame.{Frame}
use Rattle.kernel_model.specs.Script.{IsSoundScript}
use Rattle.world_model.specs.Node.{Node}
use Rattle.world_model.specs.Step.{Step}
use Rattle.world_model.specs.Starting.{run}
use Rattle.world_model.specs.Turn.{take_frame}
use Rattle.world_model.specs.World.{World, opening_world, size, node_count, step, is_enabled, node_at, stream, with_stream, world_after, after_turn, runs_at, takes_at}
use Rattle.world_model.specs.Schedule.{Schedule, InTurn, Drawn, Follows, choice, schedule_of, schedule_after, node_of}
use Rattle.world_model.specs.Run.{Runs, IsRunOf, IsAtRest, is_stalled}
use Rattle.world_core.specs.Laws.{IsWithin}
use Rattle.pico_cmd.specs.Run.{IsRunToRest, IsScheduledRun}
use Rattle.pico_cmd.specs.Stalled.{IsLeftAs}
use Rattle.pico_cmd.specs.Taking.{Takes}
use Rattle.pico_cmd.proofs.Chosen.{IsNext, choice_next}
use Rattle.pico_cmd.proofs.RunLaws.{Laws, left_as}

-- a step keeps the script

after_turn_script : (w : World) (p : ℕ) (o : Option Step) (next : World) → after_turn w p o ≡ Some next
    → next.script ≡ w.script
after_turn_script w p None next e = absurd (let f : ⊥ = cc in f)
after_turn_script w p (Some s) next e = let is : world_after w p s ≡ next = cc in sym (ap (λ (x : World). x.script) is)

runs_script : (w : World) (p : ℕ) (o : Option Node) (next : World) → runs_at w p o ≡ Some next → next.script ≡ w.script
runs_script w p None next e = absurd (let f : ⊥ = cc in f)
runs_script w p (Some n) next e = after_turn_script w p (run w.script n) next e

takes_script : (w : World) (p from : ℕ) (o : Option Node) (fs : List Frame) (next : World)
    → takes_at w p from o fs ≡ Some next → next.script ≡ w.script
takes_script w p from None fs next e = absurd (let f : ⊥ = cc in f)
takes_script w p from (Some n) [] next e = absurd (let f : ⊥ = cc in f)
takes_script w p from (Some n) (frame ∷ fs) next e =
    after_turn_script (record w { streams = with_stream w.streams p from fs }) p (take_frame w.script n from frame)
    next e

-- the world after a step has the script of the one before
pub step_script : (w : World) (e : Event) (next : World) → step w e ≡ Some next → next.script ≡ w.script
step_script w (events.Run p) next e = runs_script w p (node_at w p) next e
step_script w (events.Take p from) next e = takes_script w p from (node_at w p) (stream w p from) next e

-- one event more is taken
pub Takes-more : (w : World) (s : Schedule) (es : List Event) (now : World) (at : Schedule) (e : Event) (next : World)
    → Takes w s es now at → choice now at ≡ Some e → step now e ≡ Some next
    → Takes w s (es ++ e ∷ []) next (schedule_after at e)
Takes-more w s [] now at e next t chosen stepped =
    subst (λ (x : World). Takes x s (e ∷ []) next (schedule_after at e)) (sym t.0)
    (subst (λ (y : Schedule). Takes now y (e ∷ []) next (schedule_after at e)) (sym t.1)
    (record { chosen = chosen; next = next; steps = stepped; rest = (refl, refl) }))
Takes-more w s (e1 ∷ es) now at e next t chosen stepped =
    record {
      chosen = t.chosen;
      next = t.next;
      steps = t.steps;
      rest = Takes-more t.next (schedule_after s e1) es now at e next t.rest chosen stepped;
    }

-- none is left to take
pub Takes-end : (w : World) (s : Schedule) (es : List Event) (now : World) (at : Schedule)
    → Takes w s es now at → choice now at ≡ None → Follows w s es now
Takes-end w s [] now at t none = (
  subst (λ (x : World). choice x s ≡ None) (sym t.0) (subst (λ (y : Schedule). choice now y ≡ None) (sym t.1) none),
  t.0,
)
Takes-end w s (e ∷ es) now at t none =
    record {
      chosen = t.chosen;
      next = t.next;
      steps = t.steps;
      rest = Takes-end t.next (schedule_after s e) es now at t.rest none;
    }

-- A run goes on by an enabled event.
Runs-more : (w now next : World) (es : List Event) (e : Event) → Runs w es now → is_enabled now e ≡ true
    → step now e ≡ Some next → Runs w (es ++ e ∷ []) next
Runs-more w now next [] e r enabled stepped =
    record {
      enabled = subst (λ (x : World). is_enabled x e ≡ true) (sym r) enabled;
      next = next;
      steps = subst (λ (x : World). step x e ≡ Some next) (sym r) stepped;
      rest = refl;
    }
Runs-more w now next (e1 ∷ es) e r enabled stepped =
    record {
      enabled = r.enabled;
      next = r.next;
      steps = r.steps;
      rest = Runs-more r.next now next es e r.rest enabled stepped;
    }

-- the run so far, which has led to this world and schedule
pub record IsUnderWay (script : Script) (seed : ℕ) (taken : List Event) (now : World) (at : Schedule) : Type 0 where
  pub same : now.script ≡ script
  pub of_world : IsWithin (size now) at
  pub takes : Takes (opening_world script) (schedule_of seed (node_count script)) taken now at
  pub run : IsRunOf script taken now

of_first : (w : World) (b : Bool) (count seed : ℕ) → count ≤ size w
    → IsWithin (size w) (if b then InTurn count else Drawn seed)
of_first w true count seed le = le
of_first w false count seed le = tt

-- and so is its last event after one more
pub of_after : (w next : World) (at : Schedule) (e : Event) → next.script ≡ w.script → node_of e ≤ size w
    → IsWithin (size next) (schedule_after at e)
of_after w next (InTurn last) e same le = subst (λ (s : Script). node_of e ≤ node_count s) (sym same) le
of_after w next (Drawn x) e same le = tt

-- a run begins
pub IsUnderWay-start : (script : Script) (seed : ℕ) (taken : List Event) (at : Schedule)
    → taken ≡ [] → at ≡ schedule_of seed (node_count script)
    → IsUnderWay script seed taken (opening_world script) at
IsUnderWay-start script seed taken at none first =
    record {
      same = refl;
      of_world = subst (λ (s : Schedule). IsWithin (node_count script) s) (sym first)
          (of_first (opening_world script) (nat_eq seed 0) (node_count script) seed (omega arith));
      takes = subst (λ (s : Schedule).
          Takes (opening_world script) (schedule_of seed (node_count script)) taken (opening_world script) s)
          (sym first)
          (subst (λ (es : List Event).
          Takes (opening_world script) (schedule_of seed (node_count script)) es (opening_world script)
          (schedule_of seed (node_count script))) (sym none) (refl, refl));
      run = subst (λ (es : List Event). IsRunOf script es (opening_world script)) (sym none) refl;
    }

-- the event that the schedule chooses is enabled, and of one of the world's nodes
pub chosen_is_next : (script : Script) (seed : ℕ) (taken : List Event) (now : World) (at : Schedule) (e : Event)
    → IsUnderWay script seed taken now at → choice now at ≡ Some e → IsNext now (size now) e
chosen_is_next script seed taken now at e u chosen = choice_next now at e u.of_world chosen

-- a run goes on
pub IsUnderWay-more : (script : Script) (seed : ℕ) (taken more : List Event) (now next : World)
    (at next_at : Schedule) (e : Event)
    → IsUnderWay script seed taken now at → choice now at ≡ Some e → step now e ≡ Some next
    → next_at ≡ schedule_after at e → more ≡ taken ++ e ∷ [] → IsUnderWay script seed more next next_at
IsUnderWay-more script seed taken more now next at next_at e u chosen stepped after_it with_it =
    let is_next : IsNext now (size now) e = chosen_is_next script seed taken now at e u chosen
    in let same : next.script ≡ now.script = step_script now e next stepped
    in let first : World = opening_world script
    in let begins : Schedule = schedule_of seed (node_count script)
    in record {
      same = same ∙ u.same;
      of_world = subst (λ (x : Schedule). IsWithin (size next) x) (sym after_it)
          (of_after now next at e same is_next.within);
      takes = subst (λ (x : Schedule). Takes first begins more next x) (sym after_it)
          (subst (λ (es : List Event). Takes first begins es next (schedule_after at e)) (sym with_it)
          (Takes-more first begins taken now at e next u.takes chosen stepped));
      run = subst (λ (es : List Event). IsRunOf script es next) (sym with_it)
          (Runs-more first now next taken e u.run is_next.enabled stepped);
    }

-- a run that has come to rest
pub at_its_rest : Laws → (script : Script) (taken : List Event) (now : World) → IsSoundScript script
    → IsRunOf script taken now → IsAtRest now → IsRunToRest script taken now
at_its_rest laws script taken now sound run rest =
    record {
      run = run;
      rest = rest;
      quiet = laws.quiet script now sound (taken, run) rest;
      legal = (laws.legal script now sound (taken, run)).0;
      whole = laws.whole script now sound (taken, run) rest;
      legal_so_far = λ count w front. (laws.legal script w sound (take count taken, front)).0;
      owners = λ count w k name front. laws.owners script w k name sound (take count taken, front);
      short = laws.short script sound taken now run;
    }

-- a run ends
pub IsUnderWay-end : (script : Script) (seed : ℕ) (taken : List Event) (now : World) (at : Schedule)
    → Laws → IsSoundScript script
    → IsUnderWay script seed taken now at → choice now at ≡ None
    → IsScheduledRun script seed taken now
IsUnderWay-end script seed taken now at laws sound u nothing =
    record {
      schedule = Takes-end (opening_world script)
          (schedule_of seed (node_count script)) taken now at u.takes nothing;
      to_rest = at_its_rest laws script taken now sound u.run
          (laws.rest script now at (taken, u.run) u.of_world nothing);
    }

-- and is left so
pub IsUnderWay-left : (script : Script) (seed : ℕ) (taken : List Event) (now : World) (at : Schedule) (stalled : Bool)
    → Laws → IsSoundScript script
    → IsUnderWay script seed taken now at → choice now at ≡ None → is_stalled now ≡ stalled
    → IsLeftAs stalled now
IsUnderWay-left script seed taken now at stalled laws sound u nothing is =
    left_as laws script now stalled sound (taken, u.run)
    (laws.rest script now at (taken, u.run) u.of_world nothing) is
