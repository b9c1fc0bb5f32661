-- A node starts its process's next call within limits.
use Rattle.std.proofs.Common.{◌≡◌, ◌++◌, Option, Some, None, Result, Err, Ok, ℕ, true, not, ◌&&◌, nat_eq, refl, ◌<◌, ◌≤◌, length, List, ◌+◌, [], ◌∷◌, ◌∙◌, map, arith, ap, subst, sym}
use Rattle.std.proofs.lemmas.Bool.{false≢true}
use Rattle.std.specs.List.{AllByRecursion}
use Rattle.std.specs.Option.{option_and_then}
use Rattle.std.specs.Prelude.{if◌then◌else◌}
use Rattle.kernel_laws.proofs.Plain.{by_test, Of, from_some, of-map, of-some, of-next, of-test}
use Rattle.kernel_model.specs.Numbers.{is_u32}
use Rattle.kernel_model.specs.Row.{Row}
use Rattle.kernel_model.specs.Script.{IsSoundScript}
use Rattle.kernel_model.specs.SemaphoreSet.{SemaphoreSet, new_set}
use Rattle.limit_laws.proofs.Carried.{IsServedWithin, numbered-are-gone, serve-within}
use Rattle.limit_laws.proofs.Frames.{forwarded-has-ticket, forwarded-is-asked, forwarded-is-requested, spellable-is-forwarded, lease-ask-is-frame, leaving-is-frame}
use Rattle.limit_laws.proofs.Lines.{IsDueWithin, due-within}
use Rattle.limit_laws.proofs.Named.{deeds-get, deeds-put-all, held-is-numbered}
use Rattle.limit_laws.proofs.NewNames.{own-row-within, own-answered-within, make-within}
use Rattle.limit_laws.proofs.Plain.{some-nonzero}
use Rattle.limit_laws.proofs.Routed.{route-call-within}
use Rattle.limit_laws.proofs.Steps.{at-name, carry-out-waking-within, tables-within, with-node-within, send-within, serve-asked-within, with-deeds-within, step-to-within}
use Rattle.limit_laws.specs.Bodies.{IsFamilyWithin}
use Rattle.limit_laws.specs.Within.{IsBodyWithin, IsDeedWithin, IsNodeWithin, IsStepWithin, IsUnderWayWithin, asked_of}
use Rattle.node_model.specs.Bodies.{Body, Living as LivingBody, Ended, Gone, AQueue, ASet, Removed, waiters_of}
use Rattle.node_model.specs.Cache.{owner_in, look}
use Rattle.node_model.specs.Caller.{due_call, start_call}
use Rattle.node_model.specs.Kinds.{for_kind, get_named, put_all}
use Rattle.node_model.specs.Leases.{is_used_up}
use Rattle.node_model.specs.Parcels.{end_first}
use Rattle.node_model.specs.Serving.{name_in, serve, waiting_as}
use Rattle.number_maps.proofs.Order.{eq-same}
use Rattle.pico_base.specs.Home.{home_of}
use Rattle.pico_base.specs.declared.call.Call.TheVariants as calls
use Rattle.pico_base.specs.declared.call.Call.{Call}
use Rattle.pico_base.specs.declared.call.Home.TheVariants as homes
use Rattle.pico_base.specs.declared.call.Home.{Home}
use Rattle.pico_base.specs.declared.numbers.Kind.TheVariants as kinds
use Rattle.pico_base.specs.declared.numbers.Kind.{Kind}
use Rattle.pico_base.specs.declared.numbers.Name.TheVariants.{Proc}
use Rattle.pico_base.specs.declared.numbers.Name.{Name}
use Rattle.pico_base.specs.declared.reply.EndedChild.{EndedChild}
use Rattle.pico_base.specs.declared.reply.Errno.{Errno}
use Rattle.pico_base.specs.declared.reply.Reply.TheVariants as replies
use Rattle.pico_base.specs.declared.script.Script.{Script}
use Rattle.rpc_frame.specs.declared.frame.Frame.TheVariants as frames
use Rattle.waiter_fields.specs.Waiters.{max_waiters}
use Rattle.waiting_model.specs.Calls.{is_withdrawal, may_park}
use Rattle.waiting_model.specs.declared.callers.Waiting.{Waiting}
use Rattle.world_model.specs.Calls.{is_for_others}
use Rattle.world_model.specs.Node.{Node, is_leader, holds, own_row, asked_here, Leaving, Over, can_run}
use Rattle.world_model.specs.Numbers.{make}
use Rattle.world_model.specs.Routes.{route_call}
use Rattle.world_model.specs.Serving.{serve_asked}
use Rattle.world_model.specs.Starting.{run, ask, start, act, start_by, start_due, carry_out_own, end_leader, leave, request, start_making, start_own, start_set, with_look, start_at, start_end}
use Rattle.world_model.specs.Step.{Step, step_to, with_node, with_deeds, send}

module _ (script : Script) (sound : IsSoundScript script) where
  abbrev NodeIs : Node → Type 0
  NodeIs n = IsNodeWithin script n

  abbrev StepIs : Step → Type 0
  StepIs s = IsStepWithin script s

  -- the call is under way
  abbrev IsUnder : Step → Call → Type 0
  IsUnder s call = s.node.caller.under_way ≡ Some call

  -- ---- calls on the process itself

  -- nobody waits at a process
  process-has-room : (own most pid : ℕ) (body : Body) → IsBodyWithin own most (Proc pid) body
      → length (waiters_of body) < max_waiters
  process-has-room own most pid (LivingBody row) h = omega arith
  process-has-room own most pid (Ended ending) h = omega arith
  process-has-room own most pid Gone h = omega arith
  process-has-room own most pid (AQueue q) h = absurd h
  process-has-room own most pid (ASet set) h = absurd h
  process-has-room own most pid Removed h = absurd h

  act-within : (s : Step) (call : Call) → StepIs s → IsUnder s call → home_of s.node.pid call ≡ homes.Own
      → Of StepIs (act script s call)
  act-within s call k is own =
      let n : Node = s.node
      in let who : Waiting = waiting_as (asked_here n call)
      in let under : IsUnderWayWithin script n.number n.pid n.caller call = k.node.under_way call is
      in of-map StepIs (serve n.deeds who) (carry_out_own script s call)
      (λ served there.
      let h : IsServedWithin n.pid n.caller.line who served =
      of-some (IsServedWithin n.pid n.caller.line who) (serve n.deeds who) served
      (serve-within n.pid n.caller.line who under.ticket (λ _. refl) n.deeds k.node.deeds
      (λ name body called held _.
      process-has-room n.pid n.caller.line n.pid body
      (deeds-get n.pid n.caller.line n.deeds (Proc n.pid) body k.node.deeds
      (subst (λ (x : Name). get_named n.deeds x ≡ Some body)
      (from_some name (Proc n.pid) (sym called ∙ ap (name_in n.pid) own)) held)).1)) there
      in let held : Step = with_deeds s (put_all n.deeds served.changes)
      in carry-out-waking-within script sound held (asked_here n call) served.own served.wakes
      (with-deeds-within script sound s (put_all n.deeds served.changes) k
      (deeds-put-all n.pid n.caller.line served.changes n.deeds k.node.deeds h.changes))
      (some-nonzero n.caller.ticket under.ticket)
      (λ other. absurd (false≢true (sym other ∙ eq-same n.number))) h.wakes)

  start-making-within : (s : Step) (call : Call) (kind : Kind) → StepIs s → IsUnder s call
      → Of StepIs (start_making script s call kind)
  start-making-within s call kind k is =
      by_test (Of StepIs) (is_used_up (for_kind s.node.leases kind) && not (is_leader s.node))
      (Some (send s 1 (frames.LeaseAsk kind))) (make script s call kind)
      (λ _. send-within script sound s 1 (frames.LeaseAsk kind) k (lease-ask-is-frame kind) tt)
      (λ _. make-within script sound s call kind k is)

  start-set-within : (s : Step) (call : Call) (r : Result SemaphoreSet Errno) → StepIs s → IsUnder s call
      → Of StepIs (start_set script s call r)
  start-set-within s call (Err e) k is =
      own-answered-within script sound s call (replies.Fail e) k (k.node.under_way call is).ticket
  start-set-within s call (Ok set) k is = start-making-within s call kinds.Sem k is

  start-own-within : (s : Step) (call : Call) → StepIs s → IsUnder s call → home_of s.node.pid call ≡ homes.Own
      → Of StepIs (start_own script s call)
  start-own-within s (calls.Fork block) k is own = start-making-within s (calls.Fork block) kinds.Proc k is
  start-own-within s (calls.MsgGet key create excl) k is own =
      start-making-within s (calls.MsgGet key create excl) kinds.Msg k is
  start-own-within s (calls.SemGet key count create excl) k is own =
      start-set-within s (calls.SemGet key count create excl) (new_set count) k is
  start-own-within s call k is own = act-within s call k is own

  -- ---- calls that others carry out

  -- The leader routes the call, and any other node asks it to.
  pub ask-within : (s : Step) (call : Call) → StepIs s → IsUnder s call
      → is_for_others (home_of s.node.pid call) ≡ true → Of StepIs (ask script s call)
  ask-within s call k is others =
      let under : IsUnderWayWithin script s.node.number s.node.pid s.node.caller call = k.node.under_way call is
      in by_test (Of StepIs) (is_leader s.node) (route_call script s (asked_here s.node call))
      (Some (send s 1 (frames.Ask s.node.caller.ticket s.node.pid call)))
      (λ _. route-call-within script sound s (asked_here s.node call) k (under.others others))
      (λ _. send-within script sound s 1 (frames.Ask s.node.caller.ticket s.node.pid call) k
      (forwarded-is-asked (asked_here s.node call) (under.others others)) (under.others others))

  request-within : (s : Step) (call : Call) (o : Option ℕ) → StepIs s → IsUnder s call
      → is_for_others (home_of s.node.pid call) ≡ true → Of StepIs (request script s call o)
  request-within s call None k is others = ask-within s call k is others
  request-within s call (Some owner) k is others =
      let under : IsUnderWayWithin script s.node.number s.node.pid s.node.caller call = k.node.under_way call is
      in by_test (Of StepIs) (nat_eq owner s.node.number) (ask script s call)
      (Some (send s owner (frames.Request s.node.caller.ticket s.node.pid call)))
      (λ _. ask-within s call k is others)
      (λ _. send-within script sound s owner (frames.Request s.node.caller.ticket s.node.pid call) k
      (forwarded-is-requested (asked_here s.node call) (under.others others)) tt)

  start-at-within : (s : Step) (call : Call) (name : Name) → StepIs s → IsUnder s call
      → home_of s.node.pid call ≡ homes.At name → Of StepIs (start_at script s call name)
  start-at-within s call name k is home_is =
      let n : Node = s.node
      in let others : is_for_others (home_of n.pid call) ≡ true = ap is_for_others home_is
      in let under : IsUnderWayWithin script n.number n.pid n.caller call = k.node.under_way call is
      in let looked : Step = with_node s (with_look n name)
      in by_test (Of StepIs) (holds n name)
      (serve_asked script s name (asked_here n call))
      (if may_park call then ask script s call else request script looked call (owner_in n.cache name))
      (λ held. serve-asked-within script sound s name (asked_here n call) k
      (forwarded-has-ticket (asked_here n call) (under.others others)) (at-name (asked_here n call) name home_is)
      (held-is-numbered n.pid n.caller.line n.deeds name k.node.deeds held))
      (λ _. by_test (Of StepIs) (may_park call) (ask script s call) (request script looked call (owner_in n.cache name))
      (λ _. ask-within s call k is others)
      (λ _. request-within looked call (owner_in n.cache name)
      (with-node-within script sound s (with_look n name) k
      (tables-within script sound n n.stage n.deeds n.watches n.leases (look n.cache name) k.node k.node.deeds
      k.node.leases)) is others))

  -- ---- the end

  ended-are-numbered : (es : List EndedChild) (pid : ℕ) → AllByRecursion (λ (e : EndedChild). 1 ≤ e.pid) es → 1 ≤ pid
      → AllByRecursion (λ (n : ℕ). 1 ≤ n) (map (λ e. e.pid) es ++ pid ∷ [])
  ended-are-numbered [] pid all low = (low, tt)
  ended-are-numbered (e ∷ es) pid all low = (all.0, ended-are-numbered es pid all.1 low)

  end-leader-within : (s : Step) (call : Call) (row : Row) → StepIs s → IsUnder s call
      → IsDeedWithin s.node.pid s.node.caller.line (Proc s.node.pid) (LivingBody row)
      → StepIs (end_leader script s call row)
  end-leader-within s call row k is own =
      let n : Node = s.node
      in let over : Node = record n { stage = Over; deeds = put_all n.deeds (end_first n.pid row) }
      in let family : IsFamilyWithin n.caller.line row.family = (own.1).1
      in own-answered-within script sound (with_node s over) call replies.Ended
      (with-node-within script sound s over k
      (tables-within script sound n Over (put_all n.deeds (end_first n.pid row)) n.watches n.leases n.cache k.node
      (deeds-put-all n.pid n.caller.line (end_first n.pid row) n.deeds k.node.deeds
      (numbered-are-gone n.pid n.caller.line (map (λ e. e.pid) row.family.ended ++ n.pid ∷ [])
      (ended-are-numbered row.family.ended n.pid family.ended own.0))) k.node.leases))
      (k.node.under_way call is).ticket

  leave-within : (s : Step) → StepIs s → StepIs (leave s)
  leave-within s k =
      let n : Node = s.node
      in send-within script sound (with_node s (record n { stage = Leaving })) 1
      (frames.Leaving n.pid n.parent n.parent_node)
      (with-node-within script sound s (record n { stage = Leaving }) k
      (tables-within script sound n Leaving n.deeds n.watches n.leases n.cache k.node k.node.deeds k.node.leases))
      (leaving-is-frame n.pid n.parent n.parent_node) tt

  start-end-within : (s : Step) (call : Call) (row : Row) → StepIs s → IsUnder s call
      → IsDeedWithin s.node.pid s.node.caller.line (Proc s.node.pid) (LivingBody row)
      → StepIs (start_end script s call row)
  start-end-within s call row k is own =
      by_test StepIs (is_leader s.node) (end_leader script s call row) (leave s)
      (λ _. end-leader-within s call row k is own) (λ _. leave-within s k)

  -- ---- the run rule

  start-by-within : (s : Step) (call : Call) (row : Row) (home : Home) → home_of s.node.pid call ≡ home → StepIs s
      → IsUnder s call → IsDeedWithin s.node.pid s.node.caller.line (Proc s.node.pid) (LivingBody row)
      → Of StepIs (start_by script s call row home)
  start-by-within s call row homes.Own home_is k is own = start-own-within s call k is home_is
  start-by-within s call row (homes.At name) home_is k is own = start-at-within s call name k is home_is
  start-by-within s call row homes.Keys home_is k is own = ask-within s call k is (ap is_for_others home_is)
  start-by-within s call row (homes.Removal name) home_is k is own =
      ask-within s call k is (ap is_for_others home_is)
  start-by-within s call row homes.Parent home_is k is own = start-end-within s call row k is own

  started-node : (n : Node) (call : Call) → NodeIs n → IsDueWithin script sound n.number n.caller call
      → NodeIs (record n { caller = start_call n.caller call })
  started-node n call k due =
      record {
        vars = k.vars;
        line = k.line;
        under_way = λ other is.
            subst (IsUnderWayWithin script n.number n.pid (start_call n.caller call)) (from_some call other is)
            (record {
              ticket = omega arith;
              others = λ others.
                  spellable-is-forwarded (asked_of n.number n.pid (start_call n.caller call) call)
                  (omega arith) due.spellable others;
              line = due.line;
            });
        deeds = k.deeds;
        leases = k.leases;
        directory = k.directory;
      }

  start-within : (n : Node) (row : Row) (call : Call) → NodeIs n → own_row n ≡ Some row
      → IsDueWithin script sound n.number n.caller call → Of StepIs (start script n row call)
  start-within n row call k there due =
      let started : Node = record n { caller = start_call n.caller call }
      in let started_within : NodeIs started = started-node n call k due
      in by_test (Of StepIs) (is_withdrawal call) None
      (start_by script (step_to started) call row (home_of n.pid call)) (λ _. tt)
      (λ _. start-by-within (step_to started) call row (home_of n.pid call) refl
      (step-to-within script sound started started_within) refl
      (own-row-within script sound n row k there))

  start-due-within : (n : Node) (row : Row) → NodeIs n → own_row n ≡ Some row → Of StepIs (start_due script n row)
  start-due-within n row k there =
      of-next StepIs (due_call script n.number n.caller row.signals.doom) (start script n row)
      (λ call is. start-within n row call k there
      (of-some (IsDueWithin script sound n.number n.caller)
      (due_call script n.number n.caller row.signals.doom) call
      (due-within script sound n.number n.caller row.signals.doom) is))

  -- A node that starts a call stays within limits, and so is what it sends.
  pub run-within : (n : Node) → NodeIs n → Of StepIs (run script n)
  run-within n k =
      of-test StepIs (can_run n && is_u32 (n.caller.ticket + 1)) (option_and_then (start_due script n) (own_row n))
      (λ _. of-next StepIs (own_row n) (start_due script n) (λ row there. start-due-within n row k there))
