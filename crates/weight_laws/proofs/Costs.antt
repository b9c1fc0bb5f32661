-- What the parts of a step cost: how much more it weighs, with what was sent, than before.
use Rattle.std.proofs.Common.{◌≡◌, ℕ, ◌+◌, ◌≤◌, Bool, true, false, if◌then◌else◌, nat_eq, List, [], ◌∷◌, Option, Some, None, is_some, slice_get, option_map, option_and_then, refl, ap, sym, subst, ◌∙◌, arith}
use Rattle.std.specs.Option.{option_map_or}
use Rattle.std.proofs.lemmas.Bool.{false≢true}
use Rattle.pico_base.specs.declared.call.Call.{Call}
use Rattle.pico_base.specs.declared.numbers.Name.{Name}
use Rattle.pico_base.specs.declared.reply.Reply.{Reply}
use Rattle.pico_base.specs.declared.reply.Reply.TheVariants as replies
use Rattle.pico_base.specs.declared.script.Line.{Line}
use Rattle.pico_base.specs.declared.script.Script.{Script}
use Rattle.rpc_frame.specs.declared.asked.Asked.{Asked}
use Rattle.rpc_frame.specs.declared.frame.Frame.TheVariants as frames
use Rattle.kernel_model.specs.Fitting.{is_due_again, vars_after}
use Rattle.waiting_model.specs.declared.callers.Waiting.{Waiting}
use Rattle.waiting_model.specs.declared.callers.Wake.{Wake}
use Rattle.waiting_model.specs.Effect.{Effect}
use Rattle.waiting_model.specs.Kernel.{Kernel}
use Rattle.waiting_model.specs.Transition.{effect}
use Rattle.kernel_laws.proofs.Plain.{from_some, not_some}
use Rattle.node_model.specs.Bodies.{Body, Deeds, kernel_with, whole_in}
use Rattle.node_model.specs.Caller.{Caller, answer_at, answer_call, end_call, if_it_waits, lines_of}
use Rattle.node_model.specs.Directory.{At, stays}
use Rattle.node_model.specs.Kinds.{get_named, put_all}
use Rattle.node_model.specs.Serving.{Served, serve, serve_on, serve_at, serve_by, actor, changed_names, parts_in, no_such_name, name_for, makes_something, waiting_as}
use Rattle.node_model.specs.Entries.{outcome_with}
use Rattle.node_model.specs.Watches.{last_move, with_reads}
use Rattle.world_model.specs.Node.{Node, Stage, Unborn, Living, Leaving, Left, Over, is_leader, under_way_as}
use Rattle.world_model.specs.Step.{Step, carry_out, carry_out_waking, enter, enter_with, reply_at, reply_here, reply_to, send, wake_all, wake_one, with_deeds, with_node, with_strike}
use Rattle.world_model.specs.Serving.{grant, grant_held, has_room, is_struck, move_to, note_reads, serve_asked, serve_asked_with, serve_nobody, without_deed}
use Rattle.world_laws.specs.Callers.{HasTries, HasTryLeft}
use Rattle.route_laws.proofs.Owed.{is_empty, nobody_reads}
use Rattle.weight_laws.specs.Weights.{left_to_start, node_weight, sends_weight, strike_weight, to_start_in, table_weight}
use Rattle.weight_laws.proofs.Lines.{answer-below}
use Rattle.weight_laws.proofs.Parts.{ObjectsRise, place-adds, size-put-there, size_of, table-keeps}
use Rattle.weight_laws.proofs.Sums.{sends-push}

-- a step, with what it sends
abbrev pub step_weight : Script → Step → ℕ
step_weight script s = node_weight script s.node + sends_weight s.sends

-- ---- a reply

-- the node's call under way may be answered
pub record MayEnd (script : Script) (n : Node) : Type 0 where
  pub tries : HasTries script
  pub left : HasTryLeft script n.number n.caller

-- where one is under way
abbrev pub MayEndIf : Script → Node → Type 0
MayEndIf script n = is_some n.caller.under_way ≡ true → MayEnd script n

-- a caller with no more to start leaves its node no heavier
pub stage-below : (script : Script) (number : ℕ) (c d : Caller) (stage : Stage)
    → left_to_start script number d ≤ left_to_start script number c
    → to_start_in script number d stage ≤ to_start_in script number c stage
stage-below script number c d Unborn h = omega arith
stage-below script number c d Living h = h
stage-below script number c d Leaving h = omega arith
stage-below script number c d Left h = omega arith
stage-below script number c d Over h = omega arith

-- the call under way, where it has the ticket
pub under-way-at : (n : Node) (ticket : ℕ) (call : Call) → under_way_as n ticket ≡ Some call
    → n.caller.under_way ≡ Some call
under-way-at n ticket call = by-test (nat_eq ticket n.caller.ticket)
  where
    by-test : (t : Bool) → elim t [ true ↦ n.caller.under_way | false ↦ None ] ≡ Some call
        → n.caller.under_way ≡ Some call
    by-test true h = h
    by-test false h = not_some call h

answered-free : (script : Script) (number : ℕ) (c : Caller) (call : Call) (reply : Reply)
    → (answer_call script number c call reply).under_way ≡ None
answered-free script number c call reply = by-line (slice_get (lines_of script number) c.line)
  where
    by-due : (line : Line) (t : Bool)
        → (if t
        then record (end_call c) { tried = c.tried + 1 }
        else record (end_call c) { line = c.line + 1; tried = 0; vars = vars_after c.vars line.set reply }).under_way
        ≡ None
    by-due line true = refl
    by-due line false = refl

    by-line : (o : Option Line) → (answer_at c call reply o).under_way ≡ None
    by-line None = refl
    by-line (Some line) = by-due line (is_due_again call reply c.tried line.tries)

-- no signal interrupts where no call is under way
pub quiet-call : (c : Caller) → c.under_way ≡ None → strike_weight c ≡ 0
quiet-call c e =
    ap (λ o. if is_some (if c.noted then None else option_and_then if_it_waits o) then 4 else 0) e
    ∙ ap (λ t. if t then 4 else 0) (by-test c.noted)
  where
    none : Option Call
    none = None

    by-test : (t : Bool) → is_some (if t then none else option_and_then if_it_waits none) ≡ false
    by-test true = refl
    by-test false = refl

-- a caller whose call is over
pub answered-quiet : (script : Script) (number : ℕ) (c : Caller) (call : Call) (reply : Reply)
    → strike_weight (answer_call script number c call reply) ≡ 0
answered-quiet script number c call reply =
    quiet-call (answer_call script number c call reply) (answered-free script number c call reply)

-- a reply to the node's own call makes a step no heavier
pub here-costs : (script : Script) (s : Step) (reply : Reply) (ticket : ℕ) (o : Option Call)
    → under_way_as s.node ticket ≡ o → MayEndIf script s.node
    → step_weight script (reply_here script s reply o) ≤ step_weight script s
here-costs script s reply ticket None e may = omega arith
here-costs script s reply ticket (Some call) e may =
    let n : Node = s.node
    in let there : n.caller.under_way ≡ Some call = under-way-at n ticket call e
    in let ends : MayEnd script n = may (ap is_some there)
    in let below : left_to_start script n.number (answer_call script n.number n.caller call reply)
    ≤ left_to_start script n.number n.caller =
    answer-below script n.number ends.tries n.caller call call reply there ends.left
    in let start = stage-below script n.number n.caller (answer_call script n.number n.caller call reply) n.stage below
    in let quiet = answered-quiet script n.number n.caller call reply
    in omega (arith, start, quiet)

none-ends : (script : Script) (n : Node) → n.caller.under_way ≡ None → MayEndIf script n
none-ends script n none there = absurd (false≢true (sym (ap is_some none) ∙ there))

-- and then none is under way
pub here-ends : (script : Script) (s : Step) (reply : Reply) (o : Option Call) → MayEndIf script s.node
    → (let t : Step = reply_here script s reply o in MayEndIf script t.node)
here-ends script s reply None may = may
here-ends script s reply (Some call) may =
    let n : Node = s.node
    in none-ends script (record n { caller = answer_call script n.number n.caller call reply })
    (answered-free script n.number n.caller call reply)

-- A reply costs nothing: an Answer is counted at its call.
pub reply-costs : (script : Script) (s : Step) (caller ticket : ℕ) (reply : Reply) → MayEndIf script s.node
    → step_weight script (reply_at script s caller ticket reply) ≤ step_weight script s
reply-costs script s caller ticket reply may = let n : Node = s.node in by-test (nat_eq caller n.number)
  where
    by-test : (t : Bool)
        → step_weight script (if t then reply_here script s reply (under_way_as s.node ticket)
        else send s caller (frames.Answer ticket reply))
        ≤ step_weight script s
    by-test true = here-costs script s reply ticket (under_way_as s.node ticket) refl may
    by-test false = let one = sends-push s.sends (caller, frames.Answer ticket reply) in omega (arith, one)

-- and a call that is under way then may be answered
pub reply-ends : (script : Script) (s : Step) (caller ticket : ℕ) (reply : Reply) → MayEndIf script s.node
    → (let t : Step = reply_at script s caller ticket reply in MayEndIf script t.node)
reply-ends script s caller ticket reply may = let n : Node = s.node in by-test (nat_eq caller n.number)
  where
    by-test : (t : Bool)
        → (let u : Step = if t then reply_here script s reply (under_way_as s.node ticket)
        else send s caller (frames.Answer ticket reply)
        in MayEndIf script u.node)
    by-test true = here-ends script s reply (under_way_as s.node ticket) may
    by-test false = may

-- A call is carried out.
pub carried-costs : (script : Script) (s : Step) (asked : Asked) (reply : Reply) → MayEndIf script s.node
    → step_weight script (carry_out script s asked reply) ≤ step_weight script s
carried-costs script s asked reply may =
    reply-costs script (enter s asked.pid asked.call reply) asked.caller asked.ticket reply may

-- those who are woken
wakes-cost : (script : Script) (s : Step) (wakes : List Wake) → MayEndIf script s.node
    → step_weight script (wake_all script s wakes) ≤ step_weight script s
wakes-cost script s [] may = omega arith
wakes-cost script s (w ∷ wakes) may =
    let first = reply-costs script s w.caller w.ticket w.reply may
    in let rest = wakes-cost script (wake_one script s w) wakes
    (reply-ends script s w.caller w.ticket w.reply may)
    in omega (arith, first, rest)

-- It is carried out with those whom it wakes.
pub waking-costs : (script : Script) (s : Step) (asked : Asked) (own : Option Reply) (wakes : List Wake)
    → MayEndIf script s.node
    → step_weight script (carry_out_waking script s asked own wakes) ≤ step_weight script s
waking-costs script s asked None wakes may =
    wakes-cost script (enter_with s asked.pid asked.call (outcome_with None wakes)) wakes may
waking-costs script s asked (Some reply) wakes may =
    let entered : Step = enter_with s asked.pid asked.call (outcome_with (Some reply) wakes)
    in let first = reply-costs script entered asked.caller asked.ticket reply may
    in let rest = wakes-cost script (reply_to script entered asked reply) wakes
    (reply-ends script entered asked.caller asked.ticket reply may)
    in omega (arith, first, rest)

-- ---- a call is served

module _ (deeds : Deeds) (rise : ObjectsRise deeds) where
  changed-size : (name : Name) (was : Body) (k : Kernel) → get_named deeds name ≡ Some was
      → (r : Option Reply) → size_of (put_all deeds (parts_in k (changed_names name r))) ≤ size_of deeds
  changed-size name was k there (Some (replies.Child child ending)) =
      size-put-there deeds name (whole_in k name) was rise there
  changed-size name was k there r = size-put-there deeds name (whole_in k name) was rise there

  served-on : (name : Name) (was : Body) (who : Waiting) (o : Option Effect) (s : Served)
      → get_named deeds name ≡ Some was → option_map (serve_by name was who) o ≡ Some s
      → size_of (put_all deeds s.changes) ≤ size_of deeds
  served-on name was who None s there h = not_some s h
  served-on name was who (Some e) s there h =
      subst (λ (x : Served). size_of (put_all deeds x.changes) ≤ size_of deeds) (from_some _ _ h)
      (changed-size name was e.kernel there e.own)

  served-at : (name : Name) (who : Waiting) (s : Served) (o : Option Body) → get_named deeds name ≡ o
      → option_and_then (λ body. serve_on name body who) o ≡ Some s
      → size_of (put_all deeds s.changes) ≤ size_of deeds
  served-at name who s None there h = not_some s h
  served-at name who s (Some body) there h =
      served-on name body who (effect (kernel_with name body) who (actor body) 0) s there h

  served-by : (who : Waiting) (s : Served) (o : Option Name) → serve_at deeds who o ≡ Some s
      → size_of (put_all deeds s.changes) ≤ size_of deeds
  served-by who s None h = not_some s h
  served-by who s (Some name) h = served-at name who s (get_named deeds name) refl h

  not-if : (t : Bool) (o : Option Served) (s : Served) → (if t then None else o) ≡ Some s → o ≡ Some s
  not-if true o s h = not_some s h
  not-if false o s h = h

  -- it leaves as many queues and sets
  pub served-size : (who : Waiting) (s : Served) → serve deeds who ≡ Some s
      → size_of (put_all deeds s.changes) ≤ size_of deeds
  served-size who s h =
      served-by who s (name_for who.pid who.call)
      (not-if (makes_something who.call) (serve_at deeds who (name_for who.pid who.call)) s h)

-- ---- a name moves to who reads it

-- a deed that goes on at once, and what an owner tells the leader
abbrev pub move_cost : Bool → ℕ
move_cost leads = if leads then 2 else 5

-- the leader's table isn't counted
pub table-none : (n : Node) → is_leader n ≡ true → table_weight n ≡ 0
table-none n e = ap (λ t. if t then 0 else size_of n.deeds) e

grant-costs : (script : Script) (s : Step) (name : Name) (to : ℕ) (o : Option Body)
    → (let n : Node = s.node in is_leader n ≡ true)
    → step_weight script (grant_held s name to o) ≤ step_weight script s + 2
grant-costs script s name to None leads = omega arith
grant-costs script s name to (Some body) leads =
    let n : Node = s.node
    in let place = place-adds n.leader.directory name (At to)
    in let frame : Step = grant_held s name to (Some body)
    in let sends : sends_weight frame.sends ≡ sends_weight s.sends + 2 = sends-push s.sends _
    in let none = table-none (without_deed n name) leads
    in omega (arith, place, sends, none)

stay-costs : (script : Script) (s : Step) (name : Name) (to : ℕ) (t : Bool)
    → (let n : Node = s.node in is_leader n ≡ true)
    → step_weight script (if t then grant s name to else s) ≤ step_weight script s + 2
stay-costs script s name to true leads =
    let n : Node = s.node in grant-costs script s name to (get_named n.deeds name) leads
stay-costs script s name to false leads = omega arith

move-by : (script : Script) (s : Step) (name : Name) (to : ℕ) (t : Bool) → (let n : Node = s.node in is_leader n ≡ t)
    → step_weight script (let n : Node = s.node in
    if t
    then if stays n.leader.directory to then grant s name to else s
    else send s 1 (frames.Suggest name to))
    ≤ step_weight script s + move_cost t
move-by script s name to true leads =
    let n : Node = s.node in stay-costs script s name to (stays n.leader.directory to) leads
move-by script s name to false leads =
    let one = sends-push s.sends (1, frames.Suggest name to) in omega (arith, one)

moved-costs : (script : Script) (s : Step) (name : Name) (o : Option ℕ)
    → step_weight script (move_to s name o) ≤ step_weight script s + (let n : Node = s.node in move_cost (is_leader n))
moved-costs script s name None = omega arith
moved-costs script s name (Some to) = let n : Node = s.node in move-by script s name to (is_leader n) refl

-- the node's number stays
abbrev SameNumber : Step → Step → Type 0
SameNumber s t = let n : Node = s.node in let m : Node = t.node in m.number ≡ n.number

here-number : (script : Script) (s : Step) (reply : Reply) (o : Option Call)
    → SameNumber s (reply_here script s reply o)
here-number script s reply None = refl
here-number script s reply (Some call) = refl

reply-number : (script : Script) (s : Step) (caller ticket : ℕ) (reply : Reply)
    → SameNumber s (reply_at script s caller ticket reply)
reply-number script s caller ticket reply = let n : Node = s.node in by-test (nat_eq caller n.number)
  where
    by-test : (t : Bool)
        → SameNumber s (if t then reply_here script s reply (under_way_as s.node ticket)
        else send s caller (frames.Answer ticket reply))
    by-test true = here-number script s reply (under_way_as s.node ticket)
    by-test false = refl

wakes-number : (script : Script) (s : Step) (wakes : List Wake) → SameNumber s (wake_all script s wakes)
wakes-number script s [] = refl
wakes-number script s (w ∷ wakes) =
    wakes-number script (wake_one script s w) wakes ∙ reply-number script s w.caller w.ticket w.reply

waking-number : (script : Script) (s : Step) (asked : Asked) (own : Option Reply) (wakes : List Wake)
    → SameNumber s (carry_out_waking script s asked own wakes)
waking-number script s asked None wakes =
    wakes-number script (enter_with s asked.pid asked.call (outcome_with None wakes)) wakes
waking-number script s asked (Some reply) wakes =
    let entered : Step = enter_with s asked.pid asked.call (outcome_with (Some reply) wakes)
    in wakes-number script (reply_to script entered asked reply) wakes
    ∙ reply-number script entered asked.caller asked.ticket reply

-- what reading costs
abbrev pub read_cost : Bool → Bool → ℕ
read_cost nobody leads = if nobody then 0 else move_cost leads

reads-cost : (script : Script) (s : Step) (name : Name) (readers : List ℕ)
    → step_weight script (note_reads s name readers)
    ≤ step_weight script s + (let n : Node = s.node in read_cost (is_empty readers) (is_leader n))
reads-cost script s name [] = omega arith
reads-cost script s name (reader ∷ readers) =
    let n : Node = s.node
    in moved-costs script (with_node s (record n {
      watches = with_reads n.watches n.number name (reader ∷ readers);
    })) name (last_move n.watches n.number name (reader ∷ readers))

-- what the node's table has rises, but for the leader, whose table isn't counted
abbrev pub RisesBesides : Node → Type 0
RisesBesides n = is_leader n ≡ false → ObjectsRise n.deeds

-- deeds with no more queues and sets, or the leader's
pub deeds-by : (script : Script) (s : Step) (deeds : Deeds) (t : Bool) → (let n : Node = s.node in is_leader n ≡ t)
    → (t ≡ false → let n : Node = s.node in size_of deeds ≤ size_of n.deeds)
    → step_weight script (with_deeds s deeds) ≤ step_weight script s
deeds-by script s deeds true leads small =
    let n : Node = s.node
    in let none = table-none (record n { deeds = deeds }) leads
    in omega (arith, none)
deeds-by script s deeds false leads small =
    let n : Node = s.node
    in let low = table-keeps n (record n { deeds = deeds }) refl (small refl)
    in omega (arith, low)

with-served : (script : Script) (s : Step) (name : Name) (asked : Asked) (served : Served)
    → (let n : Node = s.node in MayEndIf script n) → (let n : Node = s.node in RisesBesides n)
    → (let n : Node = s.node in serve n.deeds (waiting_as asked) ≡ Some served)
    → step_weight script (serve_asked_with script s name asked served)
    ≤ step_weight script s + (let n : Node = s.node in read_cost (is_empty served.readers) (is_leader n))
with-served script s name asked served may rises is =
    let n : Node = s.node
    in let struck : Step = with_strike s (is_struck n name asked.call)
    in let changed : Step = with_deeds struck (put_all n.deeds served.changes)
    in let done : Step = carry_out_waking script changed asked served.own served.wakes
    in let first : step_weight script changed ≤ step_weight script s =
    deeds-by script s (put_all n.deeds served.changes) (is_leader n) refl
    (λ other. served-size n.deeds (rises other) (waiting_as asked) served is)
    in let second = waking-costs script changed asked served.own served.wakes
    (λ there. record { tries = (may there).tries; left = (may there).left })
    in let third = reads-cost script done name served.readers
    in let same : read_cost (is_empty served.readers) (is_leader done.node)
    ≡ read_cost (is_empty served.readers) (is_leader n) =
    ap (λ x. read_cost (is_empty served.readers) (nat_eq x 1))
    (waking-number script changed asked served.own served.wakes)
    in omega (arith, first, second, third, same)

-- A call on a name is served. Where nobody reads that costs nothing.
pub served-costs : (script : Script) (s t : Step) (name : Name) (asked : Asked)
    → (let n : Node = s.node in MayEndIf script n)
    → (let n : Node = s.node in RisesBesides n) → serve_asked script s name asked ≡ Some t
    → step_weight script t
    ≤ step_weight script s + (let n : Node = s.node in read_cost (nobody_reads n asked) (is_leader n))
served-costs script s t name asked may rises h =
    let n : Node = s.node
    in by-room (has_room s name asked) h
  where
    by-served : (o : Option Served) → (let n : Node = s.node in serve n.deeds (waiting_as asked) ≡ o)
        → option_map (serve_asked_with script s name asked) o ≡ Some t
        → step_weight script t
        ≤ step_weight script s
        + (let n : Node = s.node in read_cost (option_map_or (λ v. is_empty v.readers) o true) (is_leader n))
    by-served None e g = not_some t g
    by-served (Some served) e g =
        subst (λ (x : Step). step_weight script x
        ≤ step_weight script s + (let n : Node = s.node in read_cost (is_empty served.readers) (is_leader n)))
        (from_some _ _ g) (with-served script s name asked served may rises e)

    by-room : (room : Bool)
        → (let n : Node = s.node
        in if room
        then option_map (serve_asked_with script s name asked) (serve n.deeds (waiting_as asked))
        else Some s) ≡ Some t
        → step_weight script t
        ≤ step_weight script s + (let n : Node = s.node in read_cost (nobody_reads n asked) (is_leader n))
    by-room true g = let n : Node = s.node in by-served (serve n.deeds (waiting_as asked)) refl g
    by-room false g = let same : step_weight script s ≡ step_weight script t = ap (step_weight script) (from_some s t g)
        in omega (arith, same)

-- A call on a number that names nothing.
pub nobody-costs : (script : Script) (s : Step) (name : Name) (asked : Asked) → MayEndIf script s.node
    → step_weight script (serve_nobody script s name asked) ≤ step_weight script s
nobody-costs script s name asked may = carried-costs script s asked (replies.Fail (no_such_name name)) may
