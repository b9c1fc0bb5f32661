-- A process's end: its exit is carried out, or its parcel is held or sent on.
use Rattle.std.proofs.lemmas.Bool.{eq-eqb}
use Rattle.std.proofs.Common.{◌≡◌, ℕ, ◌≤◌, ◌∙◌, ap, true, false, not, ◌&&◌, List, [], ◌∷◌, ◌++◌, map, Option, Some, None, option_map, refl, subst, arith}
use Rattle.std.specs.List.{AllByRecursion, list_any}
use Rattle.pico_base.specs.declared.call.Call.{Call}
use Rattle.pico_base.specs.declared.numbers.Name.{Name}
use Rattle.pico_base.specs.declared.numbers.Name.TheVariants.{Proc}
use Rattle.pico_base.specs.declared.reply.Reply.{Reply}
use Rattle.pico_base.specs.declared.reply.Reply.TheVariants as replies
use Rattle.pico_base.specs.declared.script.Script.{Script}
use Rattle.waiting_model.specs.declared.callers.Wake.{Wake}
use Rattle.node_model.specs.Entries.{outcome_with}
use Rattle.rpc_frame.specs.declared.deed.Parcel.{Parcel}
use Rattle.rpc_frame.specs.declared.frame.Frame.{Frame}
use Rattle.rpc_frame.specs.declared.frame.Frame.TheVariants as frames
use Rattle.waiting_model.specs.Kernel.{Kernel}
use Rattle.number_maps.specs.Maps.{Numbered}
use Rattle.kernel_laws.proofs.Plain.{from_some, not_some}
use Rattle.node_model.specs.Bodies.{AQueue, ASet, Body, Deeds, Ended, Gone, Living, Removed}
use Rattle.node_model.specs.Kinds.{get_named, is_object, put_all}
use Rattle.waiting_model.specs.ProcessCalls.{wakes_under}
use Rattle.node_model.specs.Parcels.{Committed, all_gone, commit_exit, committed, ending_of, fitting_bodies, found_in, found_names, kernel_after_end, lets_end, names_after_end, parent_with}
use Rattle.node_model.specs.Serving.{parts_in}
use Rattle.node_model.specs.Leases.{leases_hold}
use Rattle.world_model.specs.Calls.{is_from_leader}
use Rattle.world_model.specs.Ends.{answer_own, enter_exit, exit_here, exit_with, is_struck_by_end, names_in, parked_parent}
use Rattle.world_model.specs.Node.{Node, is_leader, under_way_as}
use Rattle.world_model.specs.Step.{Step, enter_with, reply_here, step_to, with_deeds, with_strike}
use Rattle.world_model.specs.World.{World}
use Rattle.world_laws.specs.Invariant.{Holds}
use Rattle.world_laws.specs.Places.{Beside}
use Rattle.world_laws.specs.Sights.{node_of}
use Rattle.world_laws.proofs.Steps.{Heads}
use Rattle.route_laws.proofs.release.RoutedParcels.{directory_in}
use Rattle.weight_laws.proofs.CallHeads.{may-end-if}
use Rattle.weight_laws.proofs.Costs.{MayEndIf, deeds-by, here-costs, here-ends, step_weight}
use Rattle.weight_laws.proofs.Events.{TakesLower, lowers-still}
use Rattle.weight_laws.proofs.Parts.{passed}
use Rattle.weight_laws.proofs.Starts.{gone-are-processes, put-processes}

-- ---- an exit is carried out

abbrev AreOfProcesses : List (Name × Body) → Type 0
AreOfProcesses changes = AllByRecursion (λ (c : Name × Body). is_object c.0 ≡ false) changes

both-are : (xs ys : List (Name × Body)) → AreOfProcesses xs → AreOfProcesses ys → AreOfProcesses (xs ++ ys)
both-are [] ys all others = others
both-are (x ∷ xs) ys all others = (all.0, both-are xs ys all.1 others)

-- names of processes
abbrev AreProcessNames : List Name → Type 0
AreProcessNames names = AllByRecursion (λ (name : Name). is_object name ≡ false) names

parts-are : (k : Kernel) (names : List Name) → AreProcessNames names → AreOfProcesses (parts_in k names)
parts-are k [] all = tt
parts-are k (name ∷ names) all = (all.0, parts-are k names all.1)

found-in : (reply : Reply) → AreProcessNames (found_in reply)
found-in (replies.Child child ending) = (refl, tt)
found-in reply = tt

both-names : (xs ys : List Name) → AreProcessNames xs → AreProcessNames ys → AreProcessNames (xs ++ ys)
both-names [] ys all others = others
both-names (x ∷ xs) ys all others = (all.0, both-names xs ys all.1 others)

found-are : (wakes : List Wake) → AreProcessNames (found_names wakes)
found-are [] = tt
found-are (w ∷ wakes) = both-names (found_in w.reply) (found_names wakes) (found-in w.reply) (found-are wakes)

ended-names : (pid parent : ℕ) (wakes : List Wake) (body : Body)
    → AreProcessNames (names_after_end pid parent wakes body)
ended-names pid parent wakes (Living row) = (refl, (refl, found-are wakes))
ended-names pid parent wakes (Ended ending) = (refl, tt)
ended-names pid parent wakes Gone = (refl, tt)
ended-names pid parent wakes (AQueue queue) = (refl, tt)
ended-names pid parent wakes (ASet set) = (refl, tt)
ended-names pid parent wakes Removed = (refl, tt)

-- what an exit changes are deeds of processes
exit-are : (parcel : Parcel) (bodies : Numbered Body) (waits : Option Call) (parent : Body) (c : Committed)
    → commit_exit parcel bodies waits parent ≡ Some c → AreOfProcesses c.changes
exit-are parcel bodies waits parent c h =
    let wakes : List Wake = wakes_under parcel.pid (ending_of parcel.call) (parent_with parcel.parent waits parent)
    in let k : Kernel = kernel_after_end parcel.pid parcel.parent waits parent (ending_of parcel.call)
    in let names : List Name = names_after_end parcel.pid parcel.parent wakes parent
    in let all : Committed = committed parcel bodies waits parent wakes
    in subst (λ (x : Committed). AreOfProcesses x.changes)
    (from_some all c (passed (lets_end parcel.pid parent) (Some all) c h).1)
    (both-are (all_gone (map (λ e. e.0) bodies)) (parts_in k names) (gone-are-processes (map (λ e. e.0) bodies))
    (parts-are k names (ended-names parcel.pid parcel.parent wakes parent)))

-- ---- the parent's call ends

answers-cost : (script : Script) (s : Step) (wakes : List Wake) → MayEndIf script s.node
    → step_weight script (answer_own script s wakes) ≤ step_weight script s
answers-cost script s [] may = omega arith
answers-cost script s (w ∷ wakes) may =
    let n : Node = s.node
    in let there : under_way_as n n.caller.ticket ≡ n.caller.under_way =
    ap (λ t. elim t [ true ↦ n.caller.under_way | false ↦ None ]) (eq-eqb n.caller.ticket n.caller.ticket refl)
    in let first = here-costs script s w.reply n.caller.ticket n.caller.under_way there may
    in let rest = answers-cost script (reply_here script s w.reply n.caller.under_way) wakes
    (here-ends script s w.reply n.caller.under_way may)
    in omega (arith, first, rest)

reply-stays : (script : Script) (s : Step) (reply : Reply) (o : Option Call)
    → directory_in (reply_here script s reply o) ≡ directory_in s
reply-stays script s reply None = refl
reply-stays script s reply (Some call) = refl

answers-stay : (script : Script) (s : Step) (wakes : List Wake)
    → directory_in (answer_own script s wakes) ≡ directory_in s
answers-stay script s [] = refl
answers-stay script s (w ∷ wakes) =
    let n : Node = s.node
    in answers-stay script (reply_here script s w.reply n.caller.under_way) wakes
    ∙ reply-stays script s w.reply n.caller.under_way

-- it costs nothing, and leaves the directory
pub record EndsFree (script : Script) (s t : Step) : Type 0 where
  pub costs : step_weight script t ≤ step_weight script s
  pub directory : directory_in t ≡ directory_in s

module _ (script : Script) (s : Step) (parcel : Parcel) (may : MayEndIf script s.node) where
  abbrev n : Node
  n = s.node

  entered : (c : Committed) → AreOfProcesses c.changes → EndsFree script s (enter_exit script s parcel c)
  entered c all =
      let deeds : Deeds = put_all n.deeds c.changes
      in let same = put-processes n.deeds c.changes all
      in let cost = deeds-by script s deeds (is_leader n) refl (λ other. omega (arith, same))
      in let struck : Step = with_strike s (is_struck_by_end n parcel.parent)
      in let done : Step =
      enter_with (with_deeds struck deeds) parcel.pid parcel.call (outcome_with (Some replies.Ended) c.wakes)
      in let answers = answers-cost script done c.wakes
      (λ there. let m = may there in record { tries = m.tries; left = m.left })
      in record { costs = omega (arith, cost, answers); directory = answers-stay script done c.wakes }

  exit-by : (bodies : Numbered Body) (parent : Body) (t : Step) (o : Option Committed)
      → commit_exit parcel bodies (parked_parent n parcel.parent) parent ≡ o
      → option_map (enter_exit script s parcel) o ≡ Some t → EndsFree script s t
  exit-by bodies parent t None e h = not_some t h
  exit-by bodies parent t (Some c) e h =
      subst (EndsFree script s) (from_some (enter_exit script s parcel c) t h)
      (entered c (exit-are parcel bodies (parked_parent n parcel.parent) parent c e))

  exit-of : (t : Step) (bodies : Option (Numbered Body)) (parent : Option Body)
      → exit_with script s parcel bodies parent ≡ Some t → EndsFree script s t
  exit-of t (Some bodies) (Some parent) h =
      exit-by bodies parent t (commit_exit parcel bodies (parked_parent n parcel.parent) parent) refl h
  exit-of t (Some bodies) None h = not_some t h
  exit-of t None parent h = not_some t h

  -- An exit is carried out.
  pub exit-free : (t : Step) → exit_here script s parcel ≡ Some t → EndsFree script s t
  exit-free t h = exit-of t (fitting_bodies n.deeds parcel) (get_named n.deeds (Proc parcel.parent)) h

-- ---- a parcel is sent on

-- The exit is carried out where the parent is.
pub exit-falls : (script : Script) (w : World) (b : Beside) → Holds script w [] b → (p q : ℕ) (parcel : Parcel)
    (rest : List Frame) → Heads script w p q (frames.ExitTo parcel) rest
    → TakesLower script w p q (frames.ExitTo parcel) b.call b.call
exit-falls script w b holds p q parcel rest h s rule =
    let n : Node = node_of w p
    in let ends : EndsFree script (step_to n) s =
    exit-free script (step_to n) parcel (may-end-if script w [] b holds p h.low h.high) s
    (passed (is_from_leader n q && not (list_any (leases_hold n.leases) (names_in parcel)))
    (exit_here script (step_to n) parcel) s rule).1
    in let cost = ends.costs
    in lowers-still script n 1 b.call s (omega (arith, cost))
