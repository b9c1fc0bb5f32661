-- A call in hand, in the words of the history: its process is at the caller's place, where it is due, and may make it.
use Rattle.std.proofs.Common.{◌≡◌, ◌≢◌, ℕ, true, false, List, ◌∷◌, filter, Some, refl, ap, sym, subst, ◌∙◌}
use Rattle.std.proofs.lemmas.Bool.{false≢true}
use Rattle.pico_base.specs.declared.call.Call.{Call}
use Rattle.pico_base.specs.declared.reply.Reply.{Reply}
use Rattle.pico_base.specs.declared.script.Script.{Script}
use Rattle.rpc_frame.specs.declared.asked.Asked.{Asked}
use Rattle.number_maps.specs.Maps.{get}
use Rattle.kernel_model.specs.Script.{is_exit, is_fork}
use Rattle.kernel_model.specs.Row.{Alive}
use Rattle.kernel_model.specs.Kernel.{living_at}
use Rattle.kernel_model.specs.Fitting.{IsDue, Place, is_killed}
use Rattle.kernel_model.specs.Transition.{may_make}
use Rattle.node_model.specs.declared.held.Held.{Held}
use Rattle.node_model.specs.declared.held.Held.TheVariants.{Request}
use Rattle.node_model.specs.Caller.{caller_place}
use Rattle.node_model.specs.Carrying.{is_served}
use Rattle.world_model.specs.Node.{Stage, Unborn, Living, Leaving, Left, Over}
use Rattle.world_model.specs.World.{World}
use Rattle.entry_laws.specs.Entering.{HasHistory, MayMake}
use Rattle.entry_laws.proofs.History.{may-make-from}
use Rattle.world_laws.specs.Places.{InAnswer, Beside}
use Rattle.world_laws.specs.Sights.{node_of, is_born_in, is_born_stage}
use Rattle.world_laws.specs.Callers.{CallSight, call_sight, HasCall, IsToBeMade, IsSoFar, is_item_about, is_at_work}
use Rattle.world_laws.specs.Families.{NodeHolds, BornIn, IsBorn}
use Rattle.world_laws.specs.Invariant.{HoldsOwing}
use Rattle.rule_laws.proofs.own.Served.{served-no-exit, served-no-fork, served-not-killed}
use Rattle.route_laws.proofs.hand.HandMoves.{IsFirst, first, placed_at, IsCallOf}
use Rattle.world_laws.specs.Cancels.{Owing}
use Rattle.waiting_model.specs.Linear.{at_once}

-- ---- calls

-- a call that forks nothing and ends nobody
pub record IsPlainCall (call : Call) : Type 0 where
  pub no_fork : is_fork call ≡ false
  pub no_exit : is_exit call ≡ false
  pub not_killed : is_killed call ≡ false

-- a served one
pub served-plain : (call : Call) → is_served (at_once call) ≡ true → IsPlainCall call
served-plain call h =
    record {
      no_fork = served-no-fork call h;
      no_exit = served-no-exit call h;
      not_killed = served-not-killed call h;
    }

-- ---- the caller

-- who has a call under way is born
pub at-work-born : (stage : Stage) → is_at_work stage ≡ true → is_born_stage stage ≡ true
at-work-born Unborn h = absurd (false≢true h)
at-work-born Living h = refl
at-work-born Leaving h = refl
at-work-born Left h = refl
at-work-born Over h = refl

-- a node that is at work is born
pub born-there : (script : Script) (pids : ℕ → ℕ) (p pid parent parent_node : ℕ) (stage : Stage)
    → is_at_work stage ≡ true → BornIn script pids p pid parent parent_node stage
    → IsBorn script pids p pid parent parent_node
born-there script pids p pid parent parent_node Unborn work h = absurd (false≢true work)
born-there script pids p pid parent parent_node Living work h = h
born-there script pids p pid parent parent_node Leaving work h = h
born-there script pids p pid parent parent_node Left work h = h
born-there script pids p pid parent parent_node Over work h = absurd (false≢true work)

-- it is carried out, and its reply is on its way
abbrev pub answered_at : CallSight → ℕ → ℕ → Reply → Place → Alive → Asked → CallSight
answered_at x p node reply place alive asked =
    record (placed_at x p (InAnswer node reply) asked) { place = Some place; alive = Some alive }

module _ (script : Script) (w : World) (asked : Asked) (rest : List Held) (b : Beside) {owes : Owing}
    (holds : HoldsOwing script w (Request asked ∷ rest) owes b) (asks : IsCallOf script asked) where
  abbrev p : ℕ
  p = asked.caller

  abbrev hand : List Held
  hand = Request asked ∷ rest

  abbrev x : CallSight
  x = call_sight w hand b p

  is-first : IsFirst script p (is_born_in w) x asked (filter (is_item_about p) rest)
  is-first = first script w asked rest b holds asks

  has : HasCall script p (is_born_in w) x is-first.call
  has = is-first.has

  to-be-made : IsToBeMade script p x is-first.call
  to-be-made = subst (λ z. IsSoFar script p x is-first.call z) is-first.place_is has.so_far

  call-is : asked.call ≡ is-first.call
  call-is = ap (λ (a : Asked). a.call) is-first.asked_is

  node-holds : NodeHolds script b.pids (is_born_in w) p (node_of w p)
  node-holds = holds.nodes p asks.low asks.high

  born : IsBorn script b.pids p (node_of w p).pid (node_of w p).parent (node_of w p).parent_node
  born = born-there script b.pids p _ _ _ x.stage has.at_work node-holds.birth

  -- the call is of the caller's process
  pub pid-in-hand : asked.pid ≡ b.pids p
  pid-in-hand = ap (λ (a : Asked). a.pid) is-first.asked_is ∙ born.pid_is

  -- which was forked
  pub caller-forked : b.pids p ≢ 0
  caller-forked = born.forked

  -- and whose node is born
  pub caller-born : is_born_in w p ≡ true
  caller-born = at-work-born x.stage has.at_work

  -- its history is at the caller's place
  pub place-in-hand : get b.places asked.pid ≡ Some (caller_place script p x.caller)
  place-in-hand = ap (get b.places) pid-in-hand ∙ to-be-made.there

  -- where the call is due
  pub due-in-hand : IsDue (caller_place script p x.caller) asked.call
  due-in-hand = subst (λ c. IsDue (caller_place script p x.caller) c) (sym call-is) to-be-made.due

  -- the history so far
  pub has-history : HasHistory script b.lines b.kernel b.places
  has-history = holds.history

  -- and its process may make it
  pub may-make-in-hand : MayMake b.kernel asked.pid asked.call
  may-make-in-hand =
      may-make-from script b.lines b.kernel b.places asked.pid asked.call to-be-made.alive has-history
      (ap (living_at b.kernel) pid-in-hand ∙ to-be-made.lives)
      (ap (may_make to-be-made.alive) call-is ∙ to-be-made.may)
