-- A node that starts a call lowers the weight, wherever the call is then.
use Rattle.std.proofs.Common.{◌≡◌, ℕ, ◌+◌, ◌≤◌, Bool, true, false, not, ◌&&◌, if◌then◌else◌, [], slice_get, Option, Some, None, is_some, option_and_then, refl, ap, sym, subst, ◌∙◌, arith}
use Rattle.std.proofs.lemmas.Bool.{eqb-true, false≢true}
use Rattle.pico_base.specs.declared.call.Call.{Call}
use Rattle.pico_base.specs.declared.script.Line.{Line}
use Rattle.pico_base.specs.declared.script.Script.{Script}
use Rattle.pico_base.specs.declared.script.Event.TheVariants as events
use Rattle.pico_base.specs.Home.{home_of}
use Rattle.kernel_model.specs.Numbers.{is_u32}
use Rattle.kernel_model.specs.Row.{Row}
use Rattle.kernel_laws.proofs.Plain.{not_some}
use Rattle.waiting_model.specs.Calls.{is_withdrawal}
use Rattle.node_model.specs.Caller.{Caller, caller_place, due_call, lines_of, start_call, to_cancel}
use Rattle.world_model.specs.Node.{Node, Stage, Living, Unborn, Leaving, Left, Over, can_run, is_leader, is_living, own_row}
use Rattle.world_model.specs.Starting.{run, start, start_by, start_due}
use Rattle.world_model.specs.Step.{Step, step_to}
use Rattle.world_model.specs.World.{World, node_count}
use Rattle.world_laws.specs.Callers.{CallHolds, CallSight, FreeIn, HasCallOrNone, HasNoCall, HasTryLeft, IsFree, call_sight}
use Rattle.world_laws.specs.Families.{NodeHolds, PidsHold}
use Rattle.world_laws.specs.Invariant.{Holds, IsLeading, IsShaped}
use Rattle.world_laws.specs.Places.{Beside, CallPlace, Idle, InAnswer, InAsk, InBounce, InNotOwner, InRequest, IsHeld, IsInHand, Parked, Waits, SentByPlace, SentByRange, AsksLease, HasLease, Ends, call_in}
use Rattle.world_laws.specs.Sights.{is_born_in, node_of}
use Rattle.world_laws.proofs.Lines.{past-end}
use Rattle.weight_laws.specs.Weights.{Falls, call_weight, left_to_start, node_weight, strike_weight, to_start, to_start_in}
use Rattle.weight_laws.proofs.Costs.{MayEnd, RisesBesides, step_weight}
use Rattle.weight_laws.proofs.Events.{Lowers, lowers-moved, lowers-still, run-falls}
use Rattle.weight_laws.proofs.Lines.{start-below}
use Rattle.weight_laws.proofs.Parts.{and-left, and-right, passed}
use Rattle.weight_laws.proofs.Starts.{MayStart, start-costs}

-- no call's place weighs more
place-low : (place : CallPlace) → call_weight place ≤ 13
place-low Idle = omega arith
place-low (AsksLease kind) = omega arith
place-low (HasLease kind first) = omega arith
place-low InAsk = omega arith
place-low (InRequest to) = omega arith
place-low (InNotOwner sender) = omega arith
place-low (SentByPlace to) = omega arith
place-low (SentByRange to) = omega arith
place-low (InBounce sender) = omega arith
place-low (IsHeld name) = omega arith
place-low IsInHand = omega arith
place-low Parked = omega arith
place-low (Waits name) = omega arith
place-low (InAnswer sender reply) = omega arith
place-low Ends = omega arith

lives : (stage : Stage) → is_living stage ≡ true → stage ≡ Living
lives Living h = refl
lives Unborn h = absurd (false≢true h)
lives Leaving h = absurd (false≢true h)
lives Left h = absurd (false≢true h)
lives Over h = absurd (false≢true h)

idle : (o : Option Call) → not (is_some o) ≡ true → o ≡ None
idle None h = refl
idle (Some call) h = absurd (false≢true h)

-- ---- the node that has started a call

abbrev started : Node → Call → Node
started n call = record n { caller = start_call n.caller call }

-- a signal that interrupts it costs 4 at most
strike-low : (c : Caller) → strike_weight c ≤ 4
strike-low c = by-test (is_some (to_cancel c))
  where
    by-test : (t : Bool) → (if t then 4 else 0) ≤ 4
    by-test true = omega arith
    by-test false = omega arith

module _ (script : Script) (n : Node) (living : n.stage ≡ Living) (free : n.caller.under_way ≡ None) (line : Line)
    (at : slice_get (lines_of script n.number) n.caller.line ≡ Some line) (may : MayStart script n) where
  lighter : (call : Call) → node_weight script (started n call) + 28 ≤ node_weight script n
  lighter call =
      let there : MayEnd script n = may.may_end
      in let below = start-below script n.number n.caller call line free at there.left
      in let was : to_start script n ≡ left_to_start script n.number n.caller =
      ap (to_start_in script n.number n.caller) living
      in let now : to_start script (started n call) ≡ left_to_start script n.number (start_call n.caller call) =
      ap (to_start_in script n.number (start_call n.caller call)) living
      in let strike = strike-low (start_call n.caller call)
      in omega (arith, below, was, now, strike)

  may-still : (call : Call) → MayStart script (started n call)
  may-still call =
      let there : MayEnd script n = may.may_end
      in record { may_end = record { tries = there.tries; left = there.left }; rises = may.rises; leads = may.leads }

  start-lowers : (row : Row) (call : Call) (s : Step) → start script n row call ≡ Some s
      → step_weight script s + 18 ≤ node_weight script n
  start-lowers row call s h = by-test (is_withdrawal call) refl h
    where
      by-test : (t : Bool) → is_withdrawal call ≡ t → (if t then None
          else start_by script (step_to (started n call)) call row (home_of n.pid call)) ≡ Some s
          → step_weight script s + 18 ≤ node_weight script n
      by-test true e g = not_some s g
      by-test false e g =
          let light = lighter call
          in let cost = start-costs script (started n call) (may-still call) call e row (home_of n.pid call) s g
          in omega (arith, light, cost)

  due-lowers : (row : Row) (s : Step) (o : Option Call) → option_and_then (start script n row) o ≡ Some s
      → step_weight script s + 18 ≤ node_weight script n
  due-lowers row s None h = not_some s h
  due-lowers row s (Some call) h = start-lowers row call s h

  row-lowers : (s : Step) (o : Option Row) → option_and_then (start_due script n) o ≡ Some s
      → step_weight script s + 18 ≤ node_weight script n
  row-lowers s None h = not_some s h
  row-lowers s (Some row) h = due-lowers row s (due_call script n.number n.caller row.signals.doom) h

-- ---- the event

module _ (script : Script) (w : World) (b : Beside) (holds : Holds script w [] b) (p : ℕ) (low : 1 ≤ p)
    (high : p ≤ node_count script) (rises : RisesBesides (node_of w p)) where
  abbrev n : Node
  n = node_of w p

  abbrev x : CallSight
  x = call_sight w [] b p

  node-holds : NodeHolds script b.pids (is_born_in w) p n
  node-holds = holds.nodes p low high

  no-call : n.caller.under_way ≡ None → HasNoCall script p x
  no-call free =
      let all : CallHolds script p (is_born_in w) x = holds.calls p low high
      in subst (HasCallOrNone script p (is_born_in w) x) free all.call

  is-free : n.stage ≡ Living → n.caller.under_way ≡ None → IsFree script p x
  is-free living free =
      let none : HasNoCall script p x = no-call free
      in subst (FreeIn script p x) living none.free

  -- a line is reached
  line-there : IsFree script p x
      → (line : Line) × (slice_get (lines_of script p) n.caller.line ≡ Some line)
  line-there free = by-line (slice_get (lines_of script p) n.caller.line) refl
    where
      by-line : (o : Option Line) → slice_get (lines_of script p) n.caller.line ≡ o
          → (line : Line) × (slice_get (lines_of script p) n.caller.line ≡ Some line)
      by-line (Some line) e = (line, e)
      by-line None e =
          let pids : PidsHold script b.pids b.places b.kernel = holds.pids
          in absurd
          (pids.alive p free.alive (caller_place script p n.caller) free.lives free.there
          (past-end (lines_of script p) n.caller.line e))

  leading : is_leader n ≡ true → IsLeading n.leader.directory
  leading e =
      let one : p ≡ 1 = sym node-holds.number ∙ eqb-true n.number 1 e
      in subst (λ q. let m : Node = node_of w q in IsLeading m.leader.directory) (sym one) holds.leading

  -- what starting a call costs leaves this much
  start-leaves : (s : Step) → run script n ≡ Some s
      → (step_weight script s + 18 ≤ node_weight script n) × (b.call p ≡ Idle)
  start-leaves s rule =
      let test = passed (can_run n && is_u32 (n.caller.ticket + 1)) (option_and_then (start_due script n) (own_row n))
      s rule
      in let can : can_run n ≡ true = and-left _ _ test.0
      in let living : n.stage ≡ Living = lives n.stage (and-left _ _ can)
      in let none : n.caller.under_way ≡ None = idle n.caller.under_way (and-right _ _ can)
      in let free : IsFree script p x = is-free living none
      in let line = line-there free
      in let shape : IsShaped script w = holds.shape
      in let left : HasTryLeft script n.number n.caller =
      subst (λ y. HasTryLeft script y n.caller) (sym node-holds.number) free.try_left
      in let may : MayStart script n =
      record { may_end = record { tries = shape.tries; left = left }; rises = rises; leads = leading }
      in let nowhere : HasNoCall script p x = no-call none
      in (
        row-lowers script n living none line.0
            (ap (λ y. slice_get (lines_of script y) n.caller.line) node-holds.number ∙ line.1) may s (own_row n) test.1,
        nowhere.idle,
      )

  starts-lower : (place : CallPlace) (s : Step) → run script n ≡ Some s
      → Lowers script n 0 b.call (call_in b.call p place) s
  starts-lower place s rule =
      let leaves = start-leaves s rule
      in let cost : step_weight script s + 18 ≤ node_weight script n = leaves.0
      in let light = place-low place
      in lowers-moved script n 0 b.call p Idle place s low high leaves.1 (omega (arith, cost, light))

  -- A call is started.
  pub run-falls-to : (place : CallPlace) → Falls script w (events.Run p) b.call (call_in b.call p place)
  run-falls-to place =
      run-falls script w p b.call (call_in b.call p place) holds.shape low high (starts-lower place)

  alone-lowers : (s : Step) → run script n ≡ Some s → Lowers script n 0 b.call b.call s
  alone-lowers s rule =
      let leaves = start-leaves s rule
      in let cost : step_weight script s + 18 ≤ node_weight script n = leaves.0
      in lowers-still script n 0 b.call s (omega (arith, cost))

  -- One that is over at once.
  pub run-falls-alone : Falls script w (events.Run p) b.call b.call
  run-falls-alone = run-falls script w p b.call b.call holds.shape low high alone-lowers
