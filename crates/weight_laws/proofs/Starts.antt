-- What it costs to start a call: at most 10, where a call that isn't started weighs 32.
use Rattle.std.proofs.Common.{◌≡◌, ℕ, ◌+◌, ◌≤◌, Bool, true, false, not, ◌&&◌, ◌||◌, if◌then◌else◌, List, [], ◌∷◌, nat_eq, Option, Some, None, is_none, option_map, Result, Ok, Err, refl, ap, sym, subst, ◌∙◌, arith}
use Rattle.std.specs.List.{AllByRecursion, list_any}
use Rattle.std.proofs.lemmas.Bool.{eqb-true, false≢true}
use Rattle.std.proofs.lemmas.List.Sums.{sum_by-cons}
use Rattle.pico_base.specs.declared.call.Call.{Call}
use Rattle.pico_base.specs.declared.call.Call.TheVariants as calls
use Rattle.pico_base.specs.declared.call.Home.{Home}
use Rattle.pico_base.specs.declared.call.Home.TheVariants as homes
use Rattle.pico_base.specs.declared.numbers.Kind.{Kind}
use Rattle.pico_base.specs.declared.numbers.Kind.TheVariants as kinds
use Rattle.pico_base.specs.declared.numbers.Name.{Name}
use Rattle.pico_base.specs.declared.numbers.Name.TheVariants.{Proc, Msg, Sem}
use Rattle.pico_base.specs.declared.reply.Errno.{Errno}
use Rattle.pico_base.specs.declared.reply.Reply.TheVariants as replies
use Rattle.pico_base.specs.declared.script.Script.{Script}
use Rattle.pico_base.specs.Home.{home_of}
use Rattle.rpc_frame.specs.declared.asked.Asked.{Asked}
use Rattle.rpc_frame.specs.declared.frame.Frame.TheVariants as frames
use Rattle.kernel_model.specs.Row.{Row}
use Rattle.kernel_model.specs.SemaphoreSet.{SemaphoreSet, new_set}
use Rattle.kernel_laws.proofs.Plain.{from_some, not_some}
use Rattle.node_model.specs.Bodies.{Body, Deeds}
use Rattle.node_model.specs.Cache.{owner_in}
use Rattle.node_model.specs.Directory.{Directory, Place, At, Coming, is_known, place_of}
use Rattle.node_model.specs.Kinds.{for_kind, is_object, put_all, put_named}
use Rattle.node_model.specs.Leases.{is_used_up}
use Rattle.node_model.specs.Parcels.{all_gone, end_first}
use Rattle.node_model.specs.Serving.{Served, serve, waiting_as}
use Rattle.node_model.specs.declared.held.Held.TheVariants.{Request}
use Rattle.world_model.specs.Census.{one_if}
use Rattle.world_model.specs.Node.{Node, Over, asked_here, holds, is_leader}
use Rattle.world_model.specs.Numbers.{make}
use Rattle.world_model.specs.Routes.{route_call}
use Rattle.world_model.specs.Serving.{serve_asked}
use Rattle.world_model.specs.Starting.{act, ask, carry_out_own, end_leader, leave, request, start_by, start_making, start_own, start_set, with_look}
use Rattle.world_model.specs.Step.{Step, carry_out, send, step_to, with_deeds}
use Rattle.world_laws.specs.Invariant.{IsLeading}
use Rattle.world_laws.specs.Places.{Idle}
use Rattle.weight_laws.specs.Weights.{asks_back, cost_if, hand_weight, is_away, item_weight, node_weight, removes_away, routing_weight}
use Rattle.weight_laws.proofs.Costs.{MayEnd, RisesBesides, carried-costs, deeds-by, served-costs, served-size, step_weight, table-none, MayEndIf, waking-costs}
use Rattle.weight_laws.proofs.Made.{made-costs}
use Rattle.weight_laws.proofs.NodeCalls.{read-is-cheap}
use Rattle.weight_laws.proofs.Parts.{size_of}
use Rattle.weight_laws.proofs.Routes.{route-lowers}
use Rattle.waiting_model.specs.Calls.{is_withdrawal, may_park}
use Rattle.route_laws.proofs.Owed.{nobody_reads}
use Rattle.weight_laws.proofs.Hand.{routing-low}

-- ---- one call in hand

away-cost : (o : Option Place) → cost_if (not (is_none o)) + one_if (is_away o) ≤ 10
away-cost None = omega arith
away-cost (Some (At node)) = by-test (not (nat_eq node 1))
  where
    by-test : (t : Bool) → 7 + one_if t ≤ 10
    by-test true = omega arith
    by-test false = omega arith
away-cost (Some (Coming to items)) = omega arith

known-cost : (o : Option Place) → not (is_none o) ≡ true → cost_if (not (is_none o)) + one_if (is_away o) ≤ 8
known-cost None h = absurd (false≢true h)
known-cost (Some (At node)) h = by-test (not (nat_eq node 1))
  where
    by-test : (t : Bool) → 7 + one_if t ≤ 8
    by-test true = omega arith
    by-test false = omega arith
known-cost (Some (Coming to items)) h = omega arith

or-none : (t : Bool) → (t || false) ≡ t
or-none true = refl
or-none false = refl

lighter : (withdraws : Bool) (cost : ℕ) → 7 ≤ cost → (if withdraws then 3 else cost) ≤ cost
lighter true cost h = omega (arith, h)
lighter false cost h = omega arith

hand-of : (d : Directory) (asked : Asked) → hand_weight d (Request asked ∷ [])
    ≤ routing_weight d (home_of asked.pid asked.call) + one_if (removes_away d (home_of asked.pid asked.call))
hand-of d asked =
    let one = sum_by-cons (item_weight d) (Request asked) []
    in let light = lighter (is_withdrawal asked.call) (routing_weight d (home_of asked.pid asked.call))
    (routing-low d (home_of asked.pid asked.call))
    in let back : one_if (list_any (asks_back d) (Request asked ∷ []))
    ≡ one_if (removes_away d (home_of asked.pid asked.call)) =
    ap one_if (or-none (removes_away d (home_of asked.pid asked.call)))
    in omega (arith, one, light, back)

home-cost : (d : Directory) (home : Home) → routing_weight d home + one_if (removes_away d home) ≤ 10
home-cost d (homes.Removal name) = away-cost (place_of d name)
home-cost d (homes.At name) = by-test (is_known d name)
  where
    by-test : (t : Bool) → cost_if t + 0 ≤ 10
    by-test true = omega arith
    by-test false = omega arith
home-cost d homes.Own = omega arith
home-cost d homes.Keys = omega arith
home-cost d homes.Parent = omega arith

-- a call alone in hand may cost 10
pub hand-cost : (d : Directory) (asked : Asked) → hand_weight d (Request asked ∷ []) ≤ 10
hand-cost d asked =
    let is = hand-of d asked
    in let cost = home-cost d (home_of asked.pid asked.call)
    in omega (arith, is, cost)

-- the name of a call is known
abbrev pub NameIsKnown : Directory → Home → Type 0
NameIsKnown d (homes.At name) = is_known d name ≡ true
NameIsKnown d (homes.Removal name) = is_known d name ≡ true
NameIsKnown d home = Unit {0}

known-home-cost : (d : Directory) (home : Home) → NameIsKnown d home
    → routing_weight d home + one_if (removes_away d home) ≤ 8
known-home-cost d (homes.Removal name) known = known-cost (place_of d name) known
known-home-cost d (homes.At name) known =
    let cost : cost_if (is_known d name) ≡ 7 = ap cost_if known in omega (arith, cost)
known-home-cost d homes.Own known = omega arith
known-home-cost d homes.Keys known = omega arith
known-home-cost d homes.Parent known = omega arith

-- and 8 where its name is known
pub known-hand-cost : (d : Directory) (asked : Asked) → NameIsKnown d (home_of asked.pid asked.call)
    → hand_weight d (Request asked ∷ []) ≤ 8
known-hand-cost d asked known =
    let is = hand-of d asked
    in let cost = known-home-cost d (home_of asked.pid asked.call) known
    in omega (arith, is, cost)

-- ---- deeds of processes alone

abbrev AreOfProcesses : List (Name × Body) → Type 0
AreOfProcesses changes = AllByRecursion (λ (c : Name × Body). is_object c.0 ≡ false) changes

put-process : (deeds : Deeds) (name : Name) (body : Body) → is_object name ≡ false
    → size_of (put_named deeds name body) ≡ size_of deeds
put-process deeds (Proc pid) body h = refl
put-process deeds (Msg id) body h = absurd (false≢true (sym h))
put-process deeds (Sem id) body h = absurd (false≢true (sym h))

-- leave as many queues and sets
pub put-processes : (deeds : Deeds) (changes : List (Name × Body)) → AreOfProcesses changes
    → size_of (put_all deeds changes) ≡ size_of deeds
put-processes deeds [] all = refl
put-processes deeds (c ∷ changes) all =
    put-processes (put_named deeds c.0 c.1) changes all.1 ∙ put-process deeds c.0 c.1 all.0

-- those that are gone
pub gone-are-processes : (pids : List ℕ) → AreOfProcesses (all_gone pids)
gone-are-processes [] = tt
gone-are-processes (pid ∷ pids) = (refl, gone-are-processes pids)

-- ---- the call is started

-- what is taken of the node that starts it
pub record MayStart (script : Script) (n : Node) : Type 0 where
  pub may_end : MayEnd script n
  pub rises : RisesBesides n
  pub leads : is_leader n ≡ true → IsLeading n.leader.directory

is-one : (x : ℕ) → nat_eq x 1 ≡ true → x ≡ 1
is-one x h = eqb-true x 1 h

module _ (script : Script) (n : Node) (may : MayStart script n) where
  -- a step from the node that has started a call
  abbrev Costs : Step → Type 0
  Costs s = step_weight script s ≤ node_weight script n + 10

  less-costs : (s : Step) (cost : ℕ) → cost ≤ 10 → step_weight script s ≤ node_weight script n + cost → Costs s
  less-costs s cost few h = omega (arith, few, h)

  ends : MayEndIf script n
  ends there = may.may_end

  -- ---- its own

  own-served : (call : Call) (s : Step) (o : Option Served) → serve n.deeds (waiting_as (asked_here n call)) ≡ o
      → option_map (carry_out_own script (step_to n) call) o ≡ Some s → Costs s
  own-served call s None e h = not_some s h
  own-served call s (Some served) e h =
      let changed : Step = with_deeds (step_to n) (put_all n.deeds served.changes)
      in let first : step_weight script changed ≤ step_weight script (step_to n) =
      deeds-by script (step_to n) (put_all n.deeds served.changes) (is_leader n) refl
      (λ other. served-size n.deeds (may.rises other) (waiting_as (asked_here n call)) served e)
      in let there : MayEnd script n = may.may_end
      in let second = waking-costs script changed (asked_here n call) served.own served.wakes
      (λ x. record { tries = there.tries; left = there.left })
      in subst Costs (from_some (carry_out_own script (step_to n) call served) s h) (omega (arith, first, second))

  acts : (call : Call) (s : Step) → act script (step_to n) call ≡ Some s → Costs s
  acts call s h = own-served call s (serve n.deeds (waiting_as (asked_here n call))) refl h

  making-by : (call : Call) (kind : Kind) (s : Step) (t : Bool)
      → (if t then Some (send (step_to n) 1 (frames.LeaseAsk kind)) else make script (step_to n) call kind) ≡ Some s
      → Costs s
  making-by call kind s true h =
      let m : Step = send (step_to n) 1 (frames.LeaseAsk kind)
      in let cost : Costs m = omega arith
      in subst Costs (from_some m s h) cost
  making-by call kind s false h =
      let cost = made-costs script (step_to n) s call kind may.may_end h in omega (arith, cost)

  makes : (call : Call) (kind : Kind) (s : Step) → start_making script (step_to n) call kind ≡ Some s → Costs s
  makes call kind s h = making-by call kind s (is_used_up (for_kind n.leases kind) && not (is_leader n)) h

  sets : (call : Call) (s : Step) (o : Result SemaphoreSet Errno) → start_set script (step_to n) call o ≡ Some s
      → Costs s
  sets call s (Err e) h =
      let cost = carried-costs script (step_to n) (asked_here n call) (replies.Fail e) ends
      in subst Costs (from_some (carry_out script (step_to n) (asked_here n call) (replies.Fail e)) s h)
      (omega (arith, cost))
  sets call s (Ok set) h = makes call kinds.Sem s h

  owns : (call : Call) (s : Step) → start_own script (step_to n) call ≡ Some s → Costs s
  owns (calls.Fork block) s h = makes (calls.Fork block) kinds.Proc s h
  owns (calls.MsgGet key create excl) s h = makes (calls.MsgGet key create excl) kinds.Msg s h
  owns (calls.SemGet key count create excl) s h = sets (calls.SemGet key count create excl) s (new_set count) h
  owns call s h = acts call s h

  -- ---- others carry it out

  asking-by : (call : Call) (s : Step) (t : Bool) → is_withdrawal call ≡ false → is_leader n ≡ t
      → (if t then route_call script (step_to n) (asked_here n call)
      else Some (send (step_to n) 1 (frames.Ask n.caller.ticket n.pid call))) ≡ Some s
      → Costs s
  asking-by call s true is_call leads h =
      let route = route-lowers script (step_to n) (asked_here n call) [] (is-one n.number leads) (may.leads leads) ends
      is_call s Idle (λ name e. tt) (omega arith) h
      in let cost = hand-cost n.leader.directory (asked_here n call)
      in omega (arith, route, cost)
  asking-by call s false is_call leads h =
      let m : Step = send (step_to n) 1 (frames.Ask n.caller.ticket n.pid call)
      in let cost : Costs m = omega arith
      in subst Costs (from_some m s h) cost

  asks : (call : Call) (s : Step) → is_withdrawal call ≡ false → ask script (step_to n) call ≡ Some s → Costs s
  asks call s is_call h = asking-by call s (is_leader n) is_call refl h

-- a node that has looked at its cache
looked : (script : Script) (n : Node) (name : Name) → MayStart script n → MayStart script (with_look n name)
looked script n name may =
    let there : MayEnd script n = may.may_end
    in record { may_end = record { tries = there.tries; left = there.left }; rises = may.rises; leads = may.leads }

module _ (script : Script) (n : Node) (may : MayStart script n) (call : Call) (is_call : is_withdrawal call ≡ false)
  where
    requests-to : (owner : ℕ) (s : Step) (t : Bool)
        → (if t then ask script (step_to n) call
        else Some (send (step_to n) owner (frames.Request n.caller.ticket n.pid call))) ≡ Some s
        → step_weight script s ≤ node_weight script n + 10
    requests-to owner s true h = asks script n may call s is_call h
    requests-to owner s false h =
        let m : Step = send (step_to n) owner (frames.Request n.caller.ticket n.pid call)
        in let cost : step_weight script m ≤ node_weight script n + 10 = omega arith
        in subst (λ (x : Step). step_weight script x ≤ node_weight script n + 10) (from_some m s h) cost

    requests : (o : Option ℕ) (s : Step) → request script (step_to n) call o ≡ Some s
        → step_weight script s ≤ node_weight script n + 10
    requests None s h = asks script n may call s is_call h
    requests (Some owner) s h = requests-to owner s (nat_eq owner n.number) h

module _ (script : Script) (n : Node) (may : MayStart script n) (call : Call) (is_call : is_withdrawal call ≡ false)
  where
    unheld : (name : Name) (s : Step) (t : Bool)
        → (if t then ask script (step_to n) call
        else request script (step_to (with_look n name)) call (owner_in n.cache name)) ≡ Some s
        → step_weight script s ≤ node_weight script n + 10
    unheld name s true h = asks script n may call s is_call h
    unheld name s false h =
        let cost = requests script (with_look n name) (looked script n name may) call is_call (owner_in n.cache name) s
        h
        in omega (arith, cost)

    at-name : (name : Name) (s : Step) (t : Bool)
        → (if t then serve_asked script (step_to n) name (asked_here n call)
        else if may_park call
        then ask script (step_to n) call
        else request script (step_to (with_look n name)) call (owner_in n.cache name)) ≡ Some s
        → step_weight script s ≤ node_weight script n + 10
    at-name name s true h =
        let cost = served-costs script (step_to n) s name (asked_here n call) (λ there. may.may_end) may.rises h
        in let cheap = read-is-cheap (nobody_reads n (asked_here n call)) (is_leader n)
        in omega (arith, cost, cheap)
    at-name name s false h = unheld name s (may_park call) h

    -- ---- the end

    end-by : (row : Row) (t : Bool) → is_leader n ≡ t
        → (let s : Step = if t then end_leader script (step_to n) call row else leave (step_to n)
        in step_weight script s ≤ node_weight script n + 10)
    end-by row true leads =
        let over : Node = record n { stage = Over; deeds = put_all n.deeds (end_first n.pid row) }
        in let none = table-none over leads
        in let there : MayEnd script n = may.may_end
        in let cost = carried-costs script (step_to over) (asked_here n call) replies.Ended
        (λ e. record { tries = there.tries; left = there.left })
        in omega (arith, none, cost)
    end-by row false leads = omega arith

    -- By the call's home.
    pub start-costs : (row : Row) (home : Home) (s : Step)
        → start_by script (step_to n) call row home ≡ Some s → step_weight script s ≤ node_weight script n + 10
    start-costs row homes.Own s h = owns script n may call s h
    start-costs row (homes.At name) s h = at-name name s (holds n name) h
    start-costs row homes.Keys s h = asks script n may call s is_call h
    start-costs row (homes.Removal name) s h = asks script n may call s is_call h
    start-costs row homes.Parent s h =
        subst (λ (x : Step). step_weight script x ≤ node_weight script n + 10) (from_some _ _ h)
        (end-by row (is_leader n) refl)
