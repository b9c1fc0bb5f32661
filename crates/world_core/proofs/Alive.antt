-- The invariant of a world, after an event.
use Rattle.std.proofs.Common.{◌≡◌, true, false, List, [], ◌++◌, Option, Some, IfSome, IsSome, Result, Ok, Err, OnOk, sym, ap, subst, ◌∙◌}
use Rattle.std.proofs.lemmas.List.{append-nil}
use Rattle.std.specs.Result.{is_err}
use Rattle.pico_base.specs.declared.reply.Entry.{Entry}
use Rattle.pico_base.specs.declared.script.Script.{Script}
use Rattle.pico_base.specs.declared.script.Event.{Event}
use Rattle.kernel_model.specs.Script.{IsSoundScript}
use Rattle.world_model.specs.World.{World, step, is_enabled}
use Rattle.world_model.specs.Run.{IsReachableWorld}
use Rattle.run_laws.specs.Laws.{EnabledEventsHaveSteps}
use Rattle.world_core.specs.declared.state.State.{State}
use Rattle.world_core.specs.State.{IsAlive, IsStep, world_of}
use Rattle.world_core.specs.World.{world_in, IsSoundState}
use Rattle.world_core.specs.Behind.{behind}
use Rattle.world_core.proofs.Behind.{enabled_behind, step_goes_behind, step_is_there}
use Rattle.world_core.proofs.Worlds.{kept-step, reachable-more}

pub IsAlive-step : (s next : State) (e : Event) → IsAlive s → is_enabled (world_of s) e ≡ true → IsStep s e next
    → IsAlive next
IsAlive-step s next e alive enabled stepped =
    let w = world_of s
    in let told = alive.told
    in let same : next.script ≡ s.script = (kept-step w (world_of next) e stepped.taken).script
    in let more : IsReachableWorld s.script (behind told (world_of next)) =
    reachable-more s.script (behind told w) (behind told (world_of next)) e alive.reachable
    (enabled_behind told w e ∙ enabled) (step_goes_behind told w (world_of next) e stepped.taken)
    in record {
      counted = stepped.counted;
      nodes = stepped.nodes;
      sound = subst IsSoundScript (sym same) alive.sound;
      told = told;
      reachable =
          subst (λ (script : Script). IsReachableWorld script (behind told (world_of next))) (sym same) more;
    }

-- an enabled event of a sound state leads to a state that is alive
pub IsAlive-next : (found : Option State) (old : Option World) (s next : State) (e : Event)
    → found ≡ Some s → IsSoundState found → world_in found ≡ old → IfSome old (λ w. is_enabled w e ≡ true)
    → IsStep s e next → IsAlive next
IsAlive-next found old s next e is sound view enabled stepped =
    let alive : IsAlive s = subst IsSoundState is sound
    in let there : Some (world_of s) ≡ old = sym (ap world_in is) ∙ view
    in let P : Option World → Type 0 = λ o. IfSome o (λ w. is_enabled w e ≡ true)
    in IsAlive-step s next e alive (subst P (sym there) enabled) stepped

-- a state that lets go of its journal's entries stays alive: they are told then
pub IsAlive-let_go : (s : State) → IsAlive s → IsAlive (record s { made = record s.made { entries = [] } })
IsAlive-let_go s alive =
    let w = world_of s
    in let whole : List Entry = alive.told ++ w.journal
    in record {
      counted = alive.counted;
      nodes = alive.nodes;
      sound = alive.sound;
      told = whole;
      reachable =
          subst (λ (journal : List Entry). IsReachableWorld s.script (record w { journal = journal }))
          (sym (append-nil whole)) alive.reachable;
    }

-- an enabled event of a state that is alive has a step
pub step_there : (s : State) (e : Event) → EnabledEventsHaveSteps → IsAlive s → is_enabled (world_of s) e ≡ true
    → IsSome (step (world_of s) e)
step_there s e have alive enabled =
    step_is_there alive.told (world_of s) e
    (have s.script (behind alive.told (world_of s)) e alive.sound alive.reachable
    (enabled_behind alive.told (world_of s) e ∙ enabled))

-- what is said of success holds where nothing failed
pub went-well : {T E P : Type 0} (r : Result T E) → is_err r ≡ false → OnOk r P → P
went-well (Ok x) e p = p
went-well (Err fault) e p = absurd (let f : ⊥ = cc in f)
