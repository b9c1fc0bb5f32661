-- A call by a key costs nothing at the leader, and leaves it what it knew.
use Rattle.std.proofs.Common.{◌≡◌, ℕ, ◌≤◌, true, length, nat_eq, Option, Some, None, option_map, Result, Ok, Err, refl, ap, subst, ◌∙◌, arith}
use Rattle.pico_base.specs.declared.call.Call.{Call}
use Rattle.pico_base.specs.declared.call.Call.TheVariants as calls
use Rattle.pico_base.specs.declared.numbers.Kind.TheVariants as kinds
use Rattle.pico_base.specs.declared.numbers.Name.{Name}
use Rattle.pico_base.specs.declared.numbers.Name.TheVariants.{Msg, Sem}
use Rattle.pico_base.specs.declared.reply.Errno.{Errno}
use Rattle.pico_base.specs.declared.reply.Reply.{Reply}
use Rattle.pico_base.specs.declared.reply.Reply.TheVariants as replies
use Rattle.pico_base.specs.declared.script.Script.{Script}
use Rattle.key_table.specs.KeyMap.{key_answer}
use Rattle.key_table.specs.declared.KeyAnswer.{KeyAnswer}
use Rattle.key_table.specs.declared.KeyAnswer.TheVariants as answers
use Rattle.rpc_frame.specs.declared.asked.Asked.{Asked}
use Rattle.number_maps.specs.Maps.{get}
use Rattle.kernel_model.specs.Queue.{empty_queue}
use Rattle.kernel_model.specs.SemaphoreSet.{SemaphoreSet, new_set}
use Rattle.kernel_laws.proofs.Plain.{from_some, not_some}
use Rattle.node_model.specs.Bodies.{AQueue, ASet, Body}
use Rattle.node_model.specs.Directory.{place_name}
use Rattle.node_model.specs.Kinds.{put_named}
use Rattle.world_model.specs.Keys.{bind, create_set, find_set, get_by_key, get_queue, get_set, make_bound, make_queue, make_set}
use Rattle.world_model.specs.Node.{Leader, Node, is_leader}
use Rattle.world_model.specs.Numbers.{Taken, take_number}
use Rattle.world_model.specs.Step.{Step, carry_out, with_directory, with_node}
use Rattle.route_laws.proofs.release.RoutedParcels.{directory_in}
use Rattle.weight_laws.specs.Weights.{node_weight}
use Rattle.weight_laws.proofs.Costs.{MayEndIf, carried-costs, step_weight, table-none, MayEnd}
use Rattle.weight_laws.proofs.Known.{KnowsMore, carried-knows, knows-after, knows-placed, taken-knows}
use Rattle.weight_laws.proofs.Made.{TakesNone, number-taken, taken-ends}
use Rattle.weight_laws.proofs.Parts.{placed-keeps-weight}
use Rattle.waiting_model.specs.Waiters.{unawaited}

-- a step goes on at no cost, and knows as much
pub record IsFree (script : Script) (s t : Step) : Type 0 where
  pub costs : step_weight script t ≤ step_weight script s
  pub knows : KnowsMore (directory_in s) (directory_in t)

module _ (script : Script) (s : Step) (asked : Asked) (leads : let n : Node = s.node in is_leader n ≡ true)
    (may : MayEndIf script s.node) where
  abbrev n : Node
  n = s.node

  carried : (reply : Reply) → IsFree script s (carry_out script s asked reply)
  carried reply =
      record { costs = carried-costs script s asked reply may; knows = carried-knows script s asked reply }

  -- a new name at the leader, from a node with this leader's part and the same weight
  bound-free : (m : Node) (name : Name) (body : Body) (id : ℕ) (leader : Leader) → TakesNone script n m
      → KnowsMore n.leader.directory leader.directory
      → (let made : Node = record m { leader = leader } in node_weight script made ≤ node_weight script m)
      → IsFree script s (make_bound script (with_node s m) asked name body id leader)
  bound-free m name body id leader same knows light =
      let made : Node = record m { deeds = put_named m.deeds name body; leader = leader }
      in let placed : Step =
      with_node s (with_directory made (place_name leader.directory name m.number))
      in let low = placed-keeps-weight leader.directory name m.number
      in let leads_still : is_leader m ≡ true = ap (λ x. nat_eq x 1) same.number_is ∙ leads
      in let none = table-none made leads_still
      in let none_before = table-none m leads_still
      in let weighs = same.weighs
      in let cost = carried-costs script placed asked (replies.Num id)
      (λ there. let ends : MayEnd script m = taken-ends script n m same may there
      in record { tries = ends.tries; left = ends.left })
      in record {
        costs = omega (arith, low, none, none_before, weighs, cost, light);
        knows = knows-after n.leader.directory (directory_in placed)
            (directory_in (carry_out script placed asked (replies.Num id)))
            (knows-after n.leader.directory leader.directory (directory_in placed) knows
            (knows-placed leader.directory name m.number))
            (carried-knows script placed asked (replies.Num id));
      }

  queue-free : (key : ℕ) (t : Step) (o : Option Taken) → take_number n kinds.Msg ≡ o
      → option_map (make_queue script s asked key) o ≡ Some t → IsFree script s t
  queue-free key t None e h = not_some t h
  queue-free key t (Some taken) e h =
      let m : Node = taken.node
      in let l : Leader = m.leader
      in subst (IsFree script s) (from_some _ _ h)
      (bound-free m (Msg taken.number) (AQueue (unawaited empty_queue)) taken.number
      (record l { queue_keys = bind l.queue_keys key taken.number 0 }) (number-taken script n kinds.Msg taken e)
      (taken-knows n kinds.Msg taken e) (omega arith))

  set-free : (key : ℕ) (set : SemaphoreSet) (t : Step) (o : Option Taken) → take_number n kinds.Sem ≡ o
      → option_map (make_set script s asked key set) o ≡ Some t → IsFree script s t
  set-free key set t None e h = not_some t h
  set-free key set t (Some taken) e h =
      let m : Node = taken.node
      in let l : Leader = m.leader
      in subst (IsFree script s) (from_some _ _ h)
      (bound-free m (Sem taken.number) (ASet (unawaited set)) taken.number
      (record l { set_keys = bind l.set_keys key taken.number (length set.semaphores) })
      (number-taken script n kinds.Sem taken e) (taken-knows n kinds.Sem taken e) (omega arith))

  got-queue : (key : ℕ) (t : Step) (a : KeyAnswer) → get_queue script s asked key a ≡ Some t → IsFree script s t
  got-queue key t (answers.Found id count) h = subst (IsFree script s) (from_some _ _ h) (carried (replies.Num id))
  got-queue key t answers.Create h = queue-free key t (take_number n kinds.Msg) refl h
  got-queue key t (answers.Fail e) h = subst (IsFree script s) (from_some _ _ h) (carried (replies.Fail e))

  created-set : (key : ℕ) (t : Step) (o : Result SemaphoreSet Errno) → create_set script s asked key o ≡ Some t
      → IsFree script s t
  created-set key t (Err e) h = subst (IsFree script s) (from_some _ _ h) (carried (replies.Fail e))
  created-set key t (Ok set) h = set-free key set t (take_number n kinds.Sem) refl h

  got-set : (key count : ℕ) (t : Step) (a : KeyAnswer) → get_set script s asked key count a ≡ Some t
      → IsFree script s t
  got-set key count t (answers.Found id size) h =
      subst (IsFree script s) (from_some _ _ h) (carried (find_set id size count))
  got-set key count t answers.Create h = created-set key t (new_set count) h
  got-set key count t (answers.Fail e) h = subst (IsFree script s) (from_some _ _ h) (carried (replies.Fail e))

  -- A call by a key is carried out.
  pub by-key-free : (call : Call) (t : Step) → get_by_key script s asked call ≡ Some t → IsFree script s t
  by-key-free (calls.MsgGet (Some key) create excl) t h =
      got-queue key t (key_answer (get n.leader.queue_keys key) create excl) h
  by-key-free (calls.SemGet (Some key) count create excl) t h =
      got-set key count t (key_answer (get n.leader.set_keys key) create excl) h
  by-key-free (calls.MsgGet None create excl) t h = not_some t h
  by-key-free (calls.SemGet None count create excl) t h = not_some t h
  by-key-free call t h = not_some t h
