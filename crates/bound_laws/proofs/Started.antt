-- A node starts its process's next call: bounds stay.
use Rattle.std.proofs.Common.{if◌then◌else◌, ◌≡◌, ℕ, ◌+◌, Bool, true, false, not, ◌&&◌, nat_eq, Option, Some, None, Result, Ok, Err, refl, ap, sym, subst, ◌∙◌, arith, [], map, ◌++◌, ◌∷◌}
use Rattle.std.specs.Option.{option_and_then}
use Rattle.std.proofs.lemmas.Bool.{eq-eqb, false≢true}
use Rattle.pico_base.specs.declared.call.Call.{Call}
use Rattle.pico_base.specs.declared.call.Call.TheVariants as calls
use Rattle.pico_base.specs.declared.call.Home.{Home}
use Rattle.pico_base.specs.declared.call.Home.TheVariants as homes
use Rattle.pico_base.specs.declared.numbers.Kind.{Kind}
use Rattle.pico_base.specs.declared.numbers.Kind.TheVariants as kinds
use Rattle.pico_base.specs.declared.numbers.Name.{Name}
use Rattle.pico_base.specs.declared.reply.Errno.{Errno}
use Rattle.pico_base.specs.declared.reply.Reply.{Reply}
use Rattle.pico_base.specs.declared.reply.Reply.TheVariants as replies
use Rattle.pico_base.specs.declared.script.Script.{Script}
use Rattle.pico_base.specs.Home.{home_of}
use Rattle.rpc_frame.specs.declared.frame.Frame.TheVariants as frames
use Rattle.kernel_laws.proofs.Plain.{Of, by_test, from_some, of-map, of-next, of-test, of-some}
use Rattle.kernel_model.specs.Numbers.{is_u32}
use Rattle.kernel_model.specs.Row.{Row}
use Rattle.kernel_model.specs.Script.{IsSoundScript}
use Rattle.kernel_model.specs.SemaphoreSet.{SemaphoreSet, new_set}
use Rattle.waiting_model.specs.declared.callers.Waiting.{Waiting}
use Rattle.waiting_model.specs.Calls.{is_withdrawal, may_park}
use Rattle.node_model.specs.Cache.{look, owner_in}
use Rattle.node_model.specs.Caller.{answer_call, due_call, start_call}
use Rattle.node_model.specs.Kinds.{for_kind, put_all}
use Rattle.node_model.specs.Leases.{is_used_up}
use Rattle.node_model.specs.Parcels.{end_first}
use Rattle.node_model.specs.Serving.{serve, waiting_as}
use Rattle.world_model.specs.Node.{Leaving, Node, Over, asked_here, can_run, holds, is_leader, own_row}
use Rattle.world_model.specs.Numbers.{make}
use Rattle.world_model.specs.Routes.{route_call}
use Rattle.world_model.specs.Serving.{serve_asked}
use Rattle.world_model.specs.Starting.{act, ask, carry_out_own, end_leader, leave, request, run, start, start_at, start_by, start_due, start_end, start_making, start_own, start_set, with_look}
use Rattle.world_model.specs.Step.{Step, carry_out, enter, reply_here, send, step_to, with_deeds, with_node}
use Rattle.world_model.specs.World.{IsNode}
use Rattle.bound_laws.specs.Bounded.{LeadsToNode, NodeIsBounded, StepIsBounded}
use Rattle.bound_laws.proofs.NewNames.{ForksNodes, make-bounded}
use Rattle.bound_laws.proofs.Parts.{look-names, owner-is-node}
use Rattle.bound_laws.proofs.Routed.{route-call-bounded}
use Rattle.bound_laws.proofs.Scripts.{due-fork-is-behind}
use Rattle.bound_laws.proofs.StepParts.{answered-none, carry-out-bounded, none-is, send-bounded, send-first-bounded, serve-asked-bounded, step-to-bounded, with-cache-bounded, with-caller-bounded, with-deeds-bounded, with-node-bounded, with-tables-bounded, carry-out-waking-bounded}
use Rattle.bound_laws.proofs.Waiters.{ServedNamesNodes, gone-name-nodes, put-deeds-bounded, served-names}

module _ (script : Script) where
  -- ---- calls on the process itself

  act-bounded : (s : Step) (call : Call) → StepIsBounded script s → Of (StepIsBounded script) (act script s call)
  act-bounded s call k =
      let who : Waiting = waiting_as (asked_here s.node call)
      in of-map (StepIsBounded script) (serve s.node.deeds who) (carry_out_own script s call)
      (λ served is.
      let names : ServedNamesNodes script served =
      of-some (ServedNamesNodes script) (serve s.node.deeds who) served
      (served-names script s.node.deeds who k.node.deeds k.node.number) is
      in carry-out-waking-bounded script (with_deeds s (put_all s.node.deeds served.changes)) (asked_here s.node call)
      served.own served.wakes
      (with-deeds-bounded script s (put_all s.node.deeds served.changes) k
      (put-deeds-bounded script served.changes s.node.deeds k.node.deeds names.changes)) k.node.number names.wakes)

  start-making-bounded : (s : Step) (call : Call) (kind : Kind) → StepIsBounded script s → ForksNodes script call
      → Of (StepIsBounded script) (start_making script s call kind)
  start-making-bounded s call kind k own =
      by_test (Of (StepIsBounded script)) (is_used_up (for_kind s.node.leases kind) && not (is_leader s.node))
      (Some (send s 1 (frames.LeaseAsk kind))) (make script s call kind)
      (λ _. send-first-bounded script s (frames.LeaseAsk kind) k tt) (λ _. make-bounded script s call kind k own)

  start-set-bounded : (s : Step) (call : Call) (r : Result SemaphoreSet Errno) → StepIsBounded script s
      → ForksNodes script call → Of (StepIsBounded script) (start_set script s call r)
  start-set-bounded s call (Err e) k own =
      carry-out-bounded script s (asked_here s.node call) (replies.Fail e) k k.node.number
  start-set-bounded s call (Ok set) k own = start-making-bounded s call kinds.Sem k own

  start-own-bounded : (s : Step) (call : Call) → StepIsBounded script s → ForksNodes script call
      → Of (StepIsBounded script) (start_own script s call)
  start-own-bounded s (calls.Fork block) k own = start-making-bounded s (calls.Fork block) kinds.Proc k own
  start-own-bounded s (calls.MsgGet key create excl) k own =
      start-making-bounded s (calls.MsgGet key create excl) kinds.Msg k own
  start-own-bounded s (calls.SemGet key count create excl) k own =
      start-set-bounded s (calls.SemGet key count create excl) (new_set count) k own
  start-own-bounded s call k own = act-bounded s call k

  -- ---- calls that others carry out

  -- The leader routes the call, and any other node asks it to.
  pub ask-bounded : (s : Step) (call : Call) → StepIsBounded script s → Of (StepIsBounded script) (ask script s call)
  ask-bounded s call k =
      by_test (Of (StepIsBounded script)) (is_leader s.node) (route_call script s (asked_here s.node call))
      (Some (send s 1 (frames.Ask s.node.caller.ticket s.node.pid call)))
      (λ _. route-call-bounded script s (asked_here s.node call) k k.node.number)
      (λ _. send-first-bounded script s (frames.Ask s.node.caller.ticket s.node.pid call) k tt)

  request-bounded : (s : Step) (call : Call) (o : Option ℕ) → StepIsBounded script s → LeadsToNode script o
      → Of (StepIsBounded script) (request script s call o)
  request-bounded s call None k own = ask-bounded s call k
  request-bounded s call (Some owner) k own =
      by_test (Of (StepIsBounded script)) (nat_eq owner s.node.number) (ask script s call)
      (Some (send s owner (frames.Request s.node.caller.ticket s.node.pid call))) (λ _. ask-bounded s call k)
      (λ _. send-bounded script s owner (frames.Request s.node.caller.ticket s.node.pid call) k own tt)

  start-at-bounded : (s : Step) (call : Call) (name : Name) → StepIsBounded script s
      → Of (StepIsBounded script) (start_at script s call name)
  start-at-bounded s call name k =
      by_test (Of (StepIsBounded script)) (holds s.node name)
      (serve_asked script s name (asked_here s.node call))
      (if may_park call
      then ask script s call
      else request script (with_node s (with_look s.node name)) call (owner_in s.node.cache name))
      (λ _. serve-asked-bounded script s name (asked_here s.node call) k k.node.number)
      (λ _. by_test (Of (StepIsBounded script)) (may_park call) (ask script s call)
      (request script (with_node s (with_look s.node name)) call (owner_in s.node.cache name))
      (λ _. ask-bounded s call k)
      (λ _. request-bounded (with_node s (with_look s.node name)) call (owner_in s.node.cache name)
      (with-node-bounded script s (with_look s.node name) k
      (with-cache-bounded script s.node (look s.node.cache name) k.node
      (look-names script s.node.cache name k.node.cache)))
      (owner-is-node script s.node.cache name k.node.cache)))

  -- ---- the end

  end-leader-bounded : (s : Step) (call : Call) (row : Row) → StepIsBounded script s
      → StepIsBounded script (end_leader script s call row)
  end-leader-bounded s call row k =
      let n : Node = s.node
      in let over : Node = record n { stage = Over; deeds = put_all n.deeds (end_first n.pid row) }
      in carry-out-bounded script (with_node s over) (asked_here n call) replies.Ended
      (with-node-bounded script s over k
      (with-tables-bounded script n (put_all n.deeds (end_first n.pid row)) n.watches n.leases Over k.node
      (put-deeds-bounded script (end_first n.pid row) n.deeds k.node.deeds
      (gone-name-nodes script (map (λ e. e.pid) row.family.ended ++ n.pid ∷ []))) k.node.watches)) k.node.number

  leave-bounded : (s : Step) → StepIsBounded script s → StepIsBounded script (leave s)
  leave-bounded s k =
      let n : Node = s.node
      in send-first-bounded script (with_node s (record n { stage = Leaving }))
      (frames.Leaving n.pid n.parent n.parent_node)
      (with-node-bounded script s (record n { stage = Leaving }) k
      (with-tables-bounded script n n.deeds n.watches n.leases Leaving k.node k.node.deeds k.node.watches))
      k.node.parent_node

  start-end-bounded : (s : Step) (call : Call) (row : Row) → StepIsBounded script s
      → StepIsBounded script (start_end script s call row)
  start-end-bounded s call row k =
      by_test (StepIsBounded script) (is_leader s.node) (end_leader script s call row) (leave s)
      (λ _. end-leader-bounded s call row k) (λ _. leave-bounded s k)

  -- ---- the run rule

  start-by-bounded : (s : Step) (call : Call) (row : Row) (home : Home) → StepIsBounded script s
      → ForksNodes script call → Of (StepIsBounded script) (start_by script s call row home)
  start-by-bounded s call row homes.Own k own = start-own-bounded s call k own
  start-by-bounded s call row (homes.At name) k own = start-at-bounded s call name k
  start-by-bounded s call row homes.Keys k own = ask-bounded s call k
  start-by-bounded s call row (homes.Removal name) k own = ask-bounded s call k
  start-by-bounded s call row homes.Parent k own = start-end-bounded s call row k

  -- what a call has to be, so that it may be under way
  record MayBeUnderWay (call : Call) : Type 0 where
    forks : ForksNodes script call
    size : (count : ℕ) (create excl : Bool) → call ≡ calls.SemGet None count create excl
        → (set : SemaphoreSet) × (new_set count ≡ Ok set)

  forks-from : (call : Call) → ForksNodes script call → (block : ℕ) → Some call ≡ Some (calls.Fork block)
      → IsNode script block
  forks-from (calls.Fork b) own block same =
      subst (IsNode script) (let is : b ≡ block = cc in is) own
  forks-from call own block same = absurd (cc)

  start-bounded : (n : Node) (row : Row) (call : Call) → NodeIsBounded script n → MayBeUnderWay call
      → Of (StepIsBounded script) (start script n row call)
  start-bounded n row call k may =
      by_test (Of (StepIsBounded script)) (is_withdrawal call) None
      (start_by script (step_to (record n { caller = start_call n.caller call })) call row (home_of n.pid call))
      (λ _. tt)
      (λ _. start-by-bounded (step_to (record n { caller = start_call n.caller call })) call row (home_of n.pid call)
      (step-to-bounded script (record n { caller = start_call n.caller call })
      (with-caller-bounded script n (start_call n.caller call) k (forks-from call may.forks)
      (λ count create excl is.
      may.size count create excl (from_some call (calls.SemGet None count create excl) is)))) may.forks)

  -- a call that is answered at once is under way no more
  answered-at-once : (n : Node) (call : Call) (reply : Reply) → NodeIsBounded script n
      → StepIsBounded script
      (carry_out script (step_to (record n { caller = start_call n.caller call }))
      (asked_here (record n { caller = start_call n.caller call }) call) reply)
  answered-at-once n call reply k =
      by (nat_eq n.number n.number) (nat_eq (n.caller.ticket + 1) (n.caller.ticket + 1)) (eq-eqb n.number n.number refl)
      (eq-eqb (n.caller.ticket + 1) (n.caller.ticket + 1) refl)
    where
      ended : NodeIsBounded script
          (record n { caller = answer_call script n.number (start_call n.caller call) call reply })
      ended =
          with-caller-bounded script n (answer_call script n.number (start_call n.caller call) call reply) k
          (λ block.
          none-is (answer_call script n.number (start_call n.caller call) call reply).under_way (calls.Fork block)
          (answered-none script n.number (start_call n.caller call) call reply))
          (λ count create excl.
          none-is (answer_call script n.number (start_call n.caller call) call reply).under_way
          (calls.SemGet None count create excl)
          (answered-none script n.number (start_call n.caller call) call reply))

      by : (own same : Bool) → own ≡ true → same ≡ true
          → StepIsBounded script
          (if own
          then reply_here script (enter (step_to (record n { caller = start_call n.caller call })) n.pid call reply)
          reply (elim same [ true ↦ Some call | false ↦ None ])
          else send (enter (step_to (record n { caller = start_call n.caller call })) n.pid call reply) n.number
          (frames.Answer (n.caller.ticket + 1) reply))
      by true true e g = record { node = ended; sends = tt }
      by true false e g = absurd (false≢true g)
      by false same e g = absurd (false≢true e)

  -- a set of a bad size is refused at once
  refused-bounded : (n : Node) (row : Row) (count : ℕ) (create excl : Bool) (e : Errno) → NodeIsBounded script n
      → new_set count ≡ Err e
      → Of (StepIsBounded script) (start script n row (calls.SemGet None count create excl))
  refused-bounded n row count create excl e k bad =
      subst (λ (r : Result SemaphoreSet Errno). Of (StepIsBounded script)
      (start_set script (step_to (record n { caller = start_call n.caller (calls.SemGet None count create excl) }))
      (calls.SemGet None count create excl) r)) (sym bad)
      (answered-at-once n (calls.SemGet None count create excl) (replies.Fail e) k)

  forks-by : (call : Call) → ((block : ℕ) → call ≡ calls.Fork block → IsNode script block) → ForksNodes script call
  forks-by (calls.Fork block) h = h block refl
  forks-by call h = tt

  start-sized : (n : Node) (row : Row) (count : ℕ) (create excl : Bool) (r : Result SemaphoreSet Errno)
      → NodeIsBounded script n → new_set count ≡ r
      → Of (StepIsBounded script) (start script n row (calls.SemGet None count create excl))
  start-sized n row count create excl (Err e) k is = refused-bounded n row count create excl e k is
  start-sized n row count create excl (Ok set) k is =
      start-bounded n row (calls.SemGet None count create excl) k
      (record {
        forks = tt;
        size = λ other c x same.
            (set, sym (ap new_set (counts-same count other create c excl x same)) ∙ is);
      })
    where
      counts-same : (m o : ℕ) (a b c d : Bool) → calls.SemGet None m a c ≡ calls.SemGet None o b d → m ≡ o
      counts-same m o a b c d h = cc

  start-any : (n : Node) (row : Row) (call : Call) → NodeIsBounded script n
      → ((block : ℕ) → call ≡ calls.Fork block → IsNode script block)
      → Of (StepIsBounded script) (start script n row call)
  start-any n row (calls.SemGet None count create excl) k forks =
      start-sized n row count create excl (new_set count) k refl
  start-any n row call k forks =
      start-bounded n row call k
      (record { forks = forks-by call forks; size = λ count create excl same. absurd (cc) })

  -- A node of a sound script that starts a call stays bounded, and so is what it sends.
  pub run-bounded : IsSoundScript script → (n : Node) → NodeIsBounded script n
      → Of (StepIsBounded script) (run script n)
  run-bounded sound n k =
      of-test (StepIsBounded script) (can_run n && is_u32 (n.caller.ticket + 1))
      (option_and_then (start_due script n) (own_row n))
      (λ _. of-next (StepIsBounded script) (own_row n) (start_due script n)
      (λ row _. of-next (StepIsBounded script) (due_call script n.number n.caller row.signals.doom) (start script n row)
      (λ call is. start-any n row call k
      (λ block same.
      let behind =
      due-fork-is-behind script sound n.number n.caller row.signals.doom block (is ∙ ap Some same)
      in let low = behind.0
      in record { low = omega (arith, low); high = behind.1 }))))
