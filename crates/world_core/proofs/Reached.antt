-- What holds of worlds with their whole journal: a run of the script has led to them.
use Rattle.std.proofs.Common.{◌≡◌, ◌↔◌, Bool, true, List, Option, Some, None, IfSome, IsSome, IsTrue, Result, OnOk, OnErr, sym, subst}
use Rattle.std.specs.Prelude.{Ok, Err}
use Rattle.pico_base.specs.declared.script.Script.{Script}
use Rattle.pico_base.specs.declared.script.Event.{Event}
use Rattle.pico_base.specs.declared.reply.Entry.{Entry}
use Rattle.waiting_model.specs.History.{IsLegal}
use Rattle.waiting_model.specs.Fitting.{Fits, FitsWhole}
use Rattle.kernel_model.specs.Script.{IsSoundScript}
use Rattle.world_model.specs.World.{World, step, is_enabled}
use Rattle.world_model.specs.Run.{IsAtRest, IsReachableWorld}
use Rattle.run_laws.specs.Laws.{JournalsAreLegal}
use Rattle.rest_laws.specs.Laws.{IsQuiet, RestIsQuiet, RestIsWhole}
use Rattle.world_core.specs.World.{IsReached, IsSoundWorld}
use Rattle.world_core.specs.Stepped.{IsStepped}
use Rattle.world_core.proofs.Worlds.{kept-step, reachable-more}

-- the journal that is shown is legal
pub journal_is_legal : (found : Option World) (journal : List Entry) → JournalsAreLegal → IsSome found
    → IsSoundWorld found → IfSome found (λ w. journal ≡ w.journal) → IsLegal journal
journal_is_legal None journal legal some sound is = absurd (let f : ⊥ = cc in f)
journal_is_legal (Some w) journal legal some sound is =
    subst IsLegal (sym is) (legal w.script w sound.sound sound.reachable).0

-- and fits the script
pub journal_fits : (found : Option World) (journal : List Entry) → JournalsAreLegal
    → IsSoundWorld found → IfSome found (λ w. journal ≡ w.journal) → IfSome found (λ w. Fits w.script journal)
journal_fits None journal legal sound is = tt
journal_fits (Some w) journal legal sound is =
    subst (λ (entries : List Entry). Fits w.script entries) (sym is)
    (legal w.script w sound.sound sound.reachable).1

-- at rest the journal has each process's calls to its end, or to the call in which it waits
pub rest_has_all : (found : Option World) (rests : Bool) → RestIsWhole → IsSoundWorld found
    → IfSome found (λ w. IsTrue rests ↔ IsAtRest w)
    → IfSome found (λ w. IsTrue rests → FitsWhole w.script w.journal)
rest_has_all None rests whole sound is = tt
rest_has_all (Some w) rests whole sound is = λ yes. whole w.script w sound.sound sound.reachable (is.0 yes)

-- and nothing is on its way
pub rest_has_nothing_on_its_way : (found : Option World) (rests : Bool) → RestIsQuiet → IsSoundWorld found
    → IfSome found (λ w. IsTrue rests ↔ IsAtRest w) → IfSome found (λ w. IsTrue rests → IsQuiet w.script w)
rest_has_nothing_on_its_way None rests quiet sound is = tt
rest_has_nothing_on_its_way (Some w) rests quiet sound is =
    λ yes. quiet w.script w sound.sound sound.reachable (is.0 yes)

-- an enabled event leads from a reached world to a reached one
pub IsReached-next : (w next : World) (e : Event) → IsReached w → is_enabled w e ≡ true → step w e ≡ Some next
    → IsReached next
IsReached-next w next e reached enabled taken =
    let same : next.script ≡ w.script = (kept-step w next e taken).script
    in record {
      sound = subst IsSoundScript (sym same) reached.sound;
      reachable =
          subst (λ (script : Script). IsReachableWorld script next) (sym same)
          (reachable-more w.script w next e reached.reachable enabled taken);
    }

-- and so does a step of the program's world, unless it is spent
pub sound_after : {F : Type 0} (old new : Option World) (e : Event) (r : Result (Unit {0}) F) → IsSoundWorld old
    → IfSome old (λ w. is_enabled w e ≡ true) → OnOk r (IsStepped old e new) → OnErr r (new ≡ None)
    → IsSoundWorld new
sound_after old new e (Ok done) sound enabled ok err =
    let next : World = ok.1
    in let reached : IsReached ok.0 = subst IsSoundWorld ok.2 sound
    in let may : is_enabled ok.0 e ≡ true =
    subst (λ (o : Option World). IfSome o (λ w. is_enabled w e ≡ true)) ok.2 enabled
    in subst IsSoundWorld (sym ok.3) (IsReached-next ok.0 next e reached may ok.4)
sound_after old new e (Err fault) sound enabled ok err = subst IsSoundWorld (sym err) tt
