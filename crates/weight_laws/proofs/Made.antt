-- What it costs to make a process, a queue or a set: at most 2.
use Rattle.std.proofs.Common.{◌≡◌, ℕ, ◌+◌, ◌≤◌, Bool, true, false, if◌then◌else◌, List, [], ◌∷◌, Option, Some, None, option_map, option_and_then, Result, Ok, Err, refl, subst, arith, sym, ap, is_some, ◌∙◌}
use Rattle.pico_base.specs.declared.call.Call.{Call}
use Rattle.pico_base.specs.declared.call.Call.TheVariants as calls
use Rattle.pico_base.specs.declared.numbers.Kind.{Kind}
use Rattle.pico_base.specs.declared.numbers.Name.{Name}
use Rattle.pico_base.specs.declared.numbers.Name.TheVariants.{Proc, Msg, Sem}
use Rattle.pico_base.specs.declared.reply.Errno.{Errno}
use Rattle.pico_base.specs.declared.reply.Reply.TheVariants as replies
use Rattle.pico_base.specs.declared.script.Script.{Script}
use Rattle.rpc_frame.specs.declared.frame.Frame.TheVariants as frames
use Rattle.kernel_model.specs.Fitting.{child_vars}
use Rattle.kernel_model.specs.Queue.{empty_queue}
use Rattle.kernel_model.specs.Row.{Row}
use Rattle.kernel_model.specs.SemaphoreSet.{SemaphoreSet, new_set}
use Rattle.kernel_laws.proofs.Plain.{from_some, not_some}
use Rattle.node_model.specs.Bodies.{ASet, AQueue, Body}
use Rattle.node_model.specs.Caller.{caller_place, Caller}
use Rattle.node_model.specs.Directory.{place_name, upcoming}
use Rattle.node_model.specs.Kinds.{for_kind, put_named, with_kind}
use Rattle.node_model.specs.Leases.{lease_of}
use Rattle.node_model.specs.Serving.{child_body, parent_body}
use Rattle.node_model.specs.Spelling.{pack}
use Rattle.world_model.specs.Node.{Node, asked_here, is_leader, own_row}
use Rattle.world_model.specs.Numbers.{Taken, fork_with, make, make_object, make_set, make_taken, make_with, take_first, take_from, take_from_next, take_number, tell_place, with_next_range}
use Rattle.world_model.specs.Step.{Step, carry_out, send, with_deeds, with_directory, with_node}
use Rattle.weight_laws.specs.Weights.{node_weight}
use Rattle.weight_laws.proofs.Costs.{MayEnd, MayEndIf, carried-costs, step_weight}
use Rattle.weight_laws.proofs.Parts.{passed, placed-keeps-weight, size-put, table-adds}
use Rattle.weight_laws.proofs.Sums.{sends-push}
use Rattle.waiting_model.specs.Waiters.{unawaited}

-- ---- a number is taken

-- the node without the number weighs the same
pub record TakesNone (script : Script) (n m : Node) : Type 0 where
  pub weighs : node_weight script m ≤ node_weight script n
  pub number_is : m.number ≡ n.number
  pub may_end : MayEnd script n → MayEnd script m
  pub caller_is : m.caller ≡ n.caller

-- its call under way, if there is one, may be answered
pub taken-ends : (script : Script) (n m : Node) → TakesNone script n m → MayEndIf script n → MayEndIf script m
taken-ends script n m t may there =
    t.may_end (may (ap (λ (c : Caller). is_some c.under_way) (sym t.caller_is) ∙ there))

abbrev TakenFrom : Script → Node → Taken → Type 0
TakenFrom script n t = TakesNone script n t.node

module _ (script : Script) (n : Node) (kind : Kind) where
  -- a node that weighs the same, without its next number
  first-taken : (m : Node) (t : Taken) (numbers : List ℕ) → TakesNone script n m → take_first m kind numbers ≡ Some t
      → TakenFrom script n t
  first-taken m t [] same h = not_some t h
  first-taken m t (number ∷ numbers) same h =
      let left : Taken = record { number = number; node = record m { leases = with_kind m.leases kind numbers } }
      in let weighs : node_weight script left.node ≤ node_weight script n = same.weighs
      in subst (TakenFrom script n) (from_some left t h)
      (record {
        weighs = weighs;
        number_is = same.number_is;
        may_end = λ may. let there : MayEnd script m = same.may_end may
            in record { tries = there.tries; left = there.left };
        caller_is = same.caller_is;
      })

  itself : TakesNone script n n
  itself = record { weighs = omega arith; number_is = refl; may_end = λ may. may; caller_is = refl }

  refilled : TakesNone script n (with_next_range n kind)
  refilled =
      record {
        weighs = omega arith;
        number_is = refl;
        may_end = λ may. record { tries = may.tries; left = may.left };
        caller_is = refl;
      }

  next-taken : (t : Taken) (numbers : List ℕ) → take_from n kind numbers ≡ Some t → TakenFrom script n t
  next-taken t (number ∷ numbers) h = first-taken n t (number ∷ numbers) itself h
  next-taken t [] h =
      first-taken (with_next_range n kind) t (lease_of (upcoming n.leader.directory kind)) refilled
      (passed _ _ t (passed (is_leader n) (take_from_next n kind) t h).1).1

  -- the next number of a lease, or of the leader's next range
  pub number-taken : (t : Taken) → take_number n kind ≡ Some t → TakenFrom script n t
  number-taken t h = next-taken t (for_kind n.leases kind) h

-- ---- what it is given to

tell-by : (script : Script) (s : Step) (name : Name) (at : ℕ) (t : Bool)
    → step_weight script (if t
    then with_node s (let n : Node = s.node in with_directory n (place_name n.leader.directory name at))
    else send s 1 (frames.Placed name at)) ≤ step_weight script s + 1
tell-by script s name at true =
    let n : Node = s.node
    in let low = placed-keeps-weight n.leader.directory name at
    in omega (arith, low)
tell-by script s name at false =
    let one = sends-push s.sends (1, frames.Placed name at) in omega (arith, one)

tell-costs : (script : Script) (s : Step) (name : Name) (at : ℕ)
    → step_weight script (tell_place s name at) ≤ step_weight script s + 1
tell-costs script s name at = let n : Node = s.node in tell-by script s name at (is_leader n)

module _ (script : Script) (s : Step) (call : Call) (may : let n : Node = s.node in MayEnd script n) where
  fork-costs : (block child : ℕ) (row : Row)
      → step_weight script (fork_with script s call block child row) ≤ step_weight script s + 2
  fork-costs block child row =
      let n : Node = s.node
      in let held : Step = with_deeds s (put_named n.deeds (Proc n.pid) (parent_body row child))
      in let done : Step = carry_out script held (asked_here n call) (replies.Num child)
      in let carried : step_weight script done ≤ step_weight script held =
      carried-costs script held (asked_here n call) (replies.Num child)
      (λ there. record { tries = may.tries; left = may.left })
      in let birth = frames.Checkpoint child n.pid (pack (Proc child) (child_body row))
      (child_vars (caller_place script n.number n.caller))
      in let one = sends-push done.sends (block, birth)
      in let told = tell-costs script (send done block birth) (Proc child) block
      in omega (arith, carried, one, told)

  object-costs : (name : Name) (body : Body) (number : ℕ)
      → step_weight script (make_object script s call name body number) ≤ step_weight script s + 2
  object-costs name body number =
      let n : Node = s.node
      in let m : Node = record n { deeds = put_named n.deeds name body }
      in let held : Step = with_deeds s (put_named n.deeds name body)
      in let more = table-adds n m 1 refl (size-put n.deeds name body)
      in let done : Step = carry_out script held (asked_here n call) (replies.Num number)
      in let carried : step_weight script done ≤ step_weight script held =
      carried-costs script held (asked_here n call) (replies.Num number)
      (λ there. record { tries = may.tries; left = may.left })
      in let told = tell-costs script done name n.number
      in omega (arith, carried, more, told)

  abbrev cheap : Step → Type 0
  cheap t = step_weight script t ≤ step_weight script s + 2

  set-costs : (number : ℕ) (t : Step) (o : Result SemaphoreSet Errno) → make_set script s call number o ≡ Some t
      → cheap t
  set-costs number t (Err e) h = not_some t h
  set-costs number t (Ok set) h =
      subst cheap (from_some _ _ h) (object-costs (Sem number) (ASet (unawaited set)) number)

  forked-costs : (block child : ℕ) (t : Step) (o : Option Row)
      → option_map (fork_with script s call block child) o ≡ Some t → cheap t
  forked-costs block child t None h = not_some t h
  forked-costs block child t (Some row) h = subst cheap (from_some _ _ h) (fork-costs block child row)

made-with : (script : Script) (s t : Step) (call : Call) (number : ℕ) → (let n : Node = s.node in MayEnd script n)
    → make_with script s call number ≡ Some t → step_weight script t ≤ step_weight script s + 2
made-with script s t (calls.Fork block) number may h =
    let n : Node = s.node in forked-costs script s (calls.Fork block) may block number t (own_row n) h
made-with script s t (calls.MsgGet key create excl) number may h =
    subst (λ (x : Step). step_weight script x ≤ step_weight script s + 2) (from_some _ _ h)
    (object-costs script s (calls.MsgGet key create excl) may (Msg number) (AQueue (unawaited empty_queue)) number)
made-with script s t (calls.SemGet key count create excl) number may h =
    set-costs script s (calls.SemGet key count create excl) may number t (new_set count) h
made-with script s t call number may h = not_some t h

-- Something is made with the next number.
pub made-costs : (script : Script) (s t : Step) (call : Call) (kind : Kind)
    → (let n : Node = s.node in MayEnd script n) → make script s call kind ≡ Some t
    → step_weight script t ≤ step_weight script s + 2
made-costs script s t call kind may h = let n : Node = s.node in by-number (take_number n kind) refl h
  where
    by-number : (o : Option Taken) → (let n : Node = s.node in take_number n kind ≡ o)
        → option_and_then (make_taken script s call) o ≡ Some t
        → step_weight script t ≤ step_weight script s + 2
    by-number None e g = not_some t g
    by-number (Some taken) e g =
        let n : Node = s.node
        in let same : TakesNone script n taken.node = number-taken script n kind taken e
        in let cost = made-with script (with_node s taken.node) t call taken.number (same.may_end may) g
        in let weighs = same.weighs
        in omega (arith, cost, weighs)
