-- A node that holds the deed of a call's name serves the call, and then holds what the kernel has.
use Rattle.std.proofs.Common.{◌≡◌, ◌≢◌, ℕ, Bool, true, false, List, ◌++◌, map, filter, Option, Some, None, refl, ap, sym, subst, ◌∙◌}
use Rattle.std.specs.Prelude.{if◌then◌else◌, Contains}
use Rattle.std.specs.Option.{option_and_then}
use Rattle.std.proofs.lemmas.Bool.{eq-eqb, eqb-true, false≢true}
use Rattle.pico_base.specs.declared.call.Call.{Call}
use Rattle.pico_base.specs.declared.call.Call.TheVariants as calls
use Rattle.pico_base.specs.declared.call.Home.{Home}
use Rattle.pico_base.specs.declared.call.Home.TheVariants as homes
use Rattle.pico_base.specs.declared.numbers.Name.{Name}
use Rattle.pico_base.specs.declared.numbers.Name.TheVariants.{Proc, Msg, Sem}
use Rattle.pico_base.specs.declared.reply.Ending.{Ending}
use Rattle.pico_base.specs.declared.reply.Errno.TheVariants.{Esrch}
use Rattle.pico_base.specs.declared.reply.Reply.{Reply}
use Rattle.pico_base.specs.declared.reply.Reply.TheVariants as replies
use Rattle.pico_base.specs.Home.{home_of}
use Rattle.number_maps.specs.Maps.{get}
use Rattle.kernel_model.specs.Queue.{Queue}
use Rattle.kernel_model.specs.SemaphoreSet.{SemaphoreSet}
use Rattle.kernel_model.specs.Row.{Alive, Row, Waited, Found, NotYet, NoChild, ended_child, wait}
use Rattle.kernel_model.specs.Kernel.{Kernel, Process}
use Rattle.kernel_model.specs.Kernel as kernel
use Rattle.kernel_model.specs.Valid.{IsValid}
use Rattle.kernel_laws.proofs.Members.{found-contained}
use Rattle.kernel_laws.proofs.People.{from-living}
use Rattle.node_model.specs.Kinds.{get_named, number_of, put_named, put_all}
use Rattle.node_model.specs.Bodies.{Body, Living, Ended, Gone, AQueue, ASet, Removed, Deeds, bare, body_in, fits_name, waiters_of, process_body, queue_body, set_body}
use Rattle.waiting_model.specs.declared.callers.Waiting.{Waiting}
use Rattle.waiting_model.specs.declared.callers.Wake.{Wake}
use Rattle.waiting_model.specs.Linear.{at_once}
use Rattle.node_model.specs.Awaiting.{Applied, on_own, on_whole, reap}
use Rattle.node_model.specs.Serving.{Served, caller_if, has_read_if, makes_something, name_for, name_in, serve, serve_at, serve_on, woken_reads}
use Rattle.node_model.specs.Carrying.{is_own, is_own_home, is_served, on_row}
use Rattle.serve_laws.specs.Laws.{is_found}
use Rattle.serve_laws.specs.Served.{IsServedAs, MakesOwn, found_gone}
use Rattle.serve_laws.proofs.OnWhole.{served-is-on_whole, serves-effect, serves-on}
use Rattle.entry_laws.specs.Entering.{MayMake}
use Rattle.entry_laws.proofs.Bodies.{body-living, living-body}
use Rattle.entry_laws.proofs.Names.{get-put-same-name, get-put-other-name}
use Rattle.entry_laws.proofs.Replies.{row-found}
use Rattle.entry_laws.proofs.Served.{some-is}

-- ---- a kernel's bodies go with their names

queue-fits : (id : ℕ) (o : Option Queue) → fits_name (Msg id) (queue_body o) ≡ true
queue-fits id None = refl
queue-fits id (Some q) = refl

set-fits : (id : ℕ) (o : Option SemaphoreSet) → fits_name (Sem id) (set_body o) ≡ true
set-fits id None = refl
set-fits id (Some s) = refl

process-fits : (pid : ℕ) (o : Option Process) → fits_name (Proc pid) (process_body o) ≡ true
process-fits pid None = refl
process-fits pid (Some (kernel.Living a)) = refl
process-fits pid (Some (kernel.Ended e)) = refl
process-fits pid (Some kernel.Gone) = refl

-- what the kernel has under a name is of the name's kind
pub body-fits : (k : Kernel) (name : Name) → fits_name name (body_in k name) ≡ true
body-fits k (Proc p) = process-fits p (get k.processes p)
body-fits k (Msg id) = queue-fits id (get k.queues id)
body-fits k (Sem id) = set-fits id (get k.sets id)

-- ---- own calls are on their caller

own-name : (pid : ℕ) (home : Home) → is_own_home home ≡ true → name_in pid home ≡ Some (Proc pid)
own-name pid homes.Own h = refl
own-name pid homes.Keys h = absurd (false≢true h)
own-name pid (homes.At name) h = absurd (false≢true h)
own-name pid (homes.Removal name) h = absurd (false≢true h)
own-name pid homes.Parent h = absurd (false≢true h)

pub own-call-name : (pid : ℕ) (call : Call) (name : Name) → name_for pid call ≡ Some name → is_own pid call ≡ true
    → name ≡ Proc pid
own-call-name pid call name named own = some-is name (Proc pid) (sym named ∙ own-name pid (home_of pid call) own)

-- who lives isn't its own ended child
pub ended-apart : (k : Kernel) (p : ℕ) (row : Row) → IsValid k → body_in k (Proc p) ≡ Living row → (child : ℕ)
    (ending : Ending) → Contains row.family.ended (ended_child child ending) → p ≢ child
ended-apart k p row valid lives child ending kept same =
    let a = body-living k p row lives
    in let over : get k.processes child ≡ Some (kernel.Ended ending) =
    (valid.alive p a.alive a.lives).ended child ending
    (subst (λ (r : Row). Contains r.family.ended (ended_child child ending)) (sym a.row_is) kept)
    in let both : Some (kernel.Living a.alive) ≡ Some (kernel.Ended ending) =
    sym (from-living k.processes p a.alive a.lives) ∙ ap (get k.processes) same ∙ over
    in differ a.alive ending both
  where
    differ : (a : Alive) (e : Ending) → Some (kernel.Living a) ≡ Some (kernel.Ended e) → ⊥
    differ a e h = cc

own-apart : (k : Kernel) (pid : ℕ) (call : Call) (m : MayMake k pid call) (child : ℕ) (ending : Ending)
    → Contains m.alive.row.family.ended (ended_child child ending) → pid ≢ child
own-apart k pid call m child ending kept =
    ended-apart k pid m.alive.row m.valid (living-body k pid m.alive m.lives) child ending kept

makes-own : (k : Kernel) (pid : ℕ) (call : Call) (name : Name) (m : MayMake k pid call) → name_for pid call ≡ Some name
    → is_own pid call ≡ true → MakesOwn pid (body_in k name)
makes-own k pid call name m named own = record {
  row = m.alive.row;
  lives = ap (body_in k) (own-call-name pid call name named own) ∙ living-body k pid m.alive m.lives;
  apart = own-apart k pid call m;
}

-- ---- what is held afterwards

-- the deeds with this body for the name, and without a child that was found
abbrev pub served_deeds : Deeds → Name → Body → Option Reply → Deeds
served_deeds deeds name body own = put_all (put_named deeds name body) (found_gone own)

-- the child that a reply found, if there is a reply
abbrev pub is_found_by : Option Reply → Name → Bool
is_found_by None name = false
is_found_by (Some reply) name = is_found reply name

-- the nodes that read, by the caller's reply and the woken
abbrev pub readers_by : Body → Waiting → Option Reply → List Wake → List ℕ
readers_by body who own wakes =
    caller_if (has_read_if who.call own) who.caller
    ++ map (λ w. w.caller) (filter (woken_reads (waiters_of body)) wakes)

-- ---- the node serves it

-- What is served is what the call does on the body. The name's deed has what is left of that, that of a child that was
-- found is gone, and all other deeds are as they were.
pub record ServesHere (deeds : Deeds) (name : Name) (body : Body) (who : Waiting) : Type 0 where
  pub served : Served
  pub serves : serve deeds who ≡ Some served
  pub own : served.own ≡ (on_whole name body who).own
  pub wakes : served.wakes ≡ (on_whole name body who).wakes
  pub readers : served.readers ≡ readers_by body who (on_whole name body who).own (on_whole name body who).wakes
  pub deeds_are : put_all deeds served.changes
      ≡ served_deeds deeds name (on_whole name body who).left (on_whole name body who).own
  pub here : get_named (served_deeds deeds name (on_whole name body who).left (on_whole name body who).own) name
      ≡ Some (on_whole name body who).left
  pub found : (m : Name) → is_found_by (on_whole name body who).own m ≡ true
      → get_named (served_deeds deeds name (on_whole name body who).left (on_whole name body who).own) m ≡ Some Gone
  pub others : (m : Name) → m ≢ name → is_found_by (on_whole name body who).own m ≡ false
      → get_named (served_deeds deeds name (on_whole name body who).left (on_whole name body who).own) m
      ≡ get_named deeds m

-- ---- the deeds, name by name

held-name : (deeds : Deeds) (name : Name) (body : Body) (own : Option Reply)
    → ((child : ℕ) (ending : Ending) → own ≡ Some (replies.Child child ending) → name ≢ Proc child)
    → get_named (served_deeds deeds name body own) name ≡ Some body
held-name deeds name body None apart = get-put-same-name deeds name body
held-name deeds name body (Some (replies.Child child ending)) apart =
    get-put-other-name (put_named deeds name body) (Proc child) Gone name (apart child ending refl)
    ∙ get-put-same-name deeds name body
held-name deeds name body (Some reply) apart = get-put-same-name deeds name body

found-is : (child : ℕ) (ending : Ending) (m : Name) → is_found (replies.Child child ending) m ≡ true → m ≡ Proc child
found-is child ending (Proc p) h = ap Proc (sym (eqb-true child p h))
found-is child ending (Msg id) h = absurd (false≢true h)
found-is child ending (Sem id) h = absurd (false≢true h)

found-not : (child : ℕ) (ending : Ending) (m : Name) → is_found (replies.Child child ending) m ≡ false → m ≢ Proc child
found-not child ending m h same =
    false≢true (sym h ∙ ap (is_found (replies.Child child ending)) same ∙ eq-eqb child child refl)

held-found : (deeds : Deeds) (name : Name) (body : Body) (own : Option Reply) (m : Name) → is_found_by own m ≡ true
    → get_named (served_deeds deeds name body own) m ≡ Some Gone
held-found deeds name body None m h = absurd (false≢true h)
held-found deeds name body (Some (replies.Child child ending)) m h =
    ap (get_named (served_deeds deeds name body (Some (replies.Child child ending)))) (found-is child ending m h)
    ∙ get-put-same-name (put_named deeds name body) (Proc child) Gone
held-found deeds name body (Some reply) m h = absurd (false≢true h)

held-other : (deeds : Deeds) (name : Name) (body : Body) (own : Option Reply) (m : Name) → m ≢ name
    → is_found_by own m ≡ false → get_named (served_deeds deeds name body own) m ≡ get_named deeds m
held-other deeds name body None m other h = get-put-other-name deeds name body m other
held-other deeds name body (Some (replies.Child child ending)) m other h =
    get-put-other-name (put_named deeds name body) (Proc child) Gone m (found-not child ending m h)
    ∙ get-put-other-name deeds name body m other
held-other deeds name body (Some reply) m other h = get-put-other-name deeds name body m other

-- ---- the call is served

not-making : (call : Call) → is_served (at_once call) ≡ true → makes_something call ≡ false
not-making (calls.Fork block) h = absurd (false≢true h)
not-making (calls.MsgGet key create excl) h = absurd (false≢true h)
not-making (calls.SemGet key count create excl) h = absurd (false≢true h)
not-making call h = refl

serve-is : (deeds : Deeds) (who : Waiting) (name : Name) (body : Body) → is_served (at_once who.call) ≡ true
    → name_for who.pid who.call ≡ Some name → get_named deeds name ≡ Some body
    → serve deeds who ≡ serve_on name body who
serve-is deeds who name body served named held =
    ap (λ (t : Bool). if t then None else serve_at deeds who (name_for who.pid who.call)) (not-making who.call served)
    ∙ ap (serve_at deeds who) named
    ∙ ap (option_and_then (λ (b : Body). serve_on name b who)) held

-- a body goes with its name as the kernel's part does
bare-fits : (name : Name) (body : Body) → fits_name name (bare body) ≡ fits_name name body
bare-fits (Proc p) (AQueue q) = refl
bare-fits (Proc p) (ASet s) = refl
bare-fits (Msg id) (AQueue q) = refl
bare-fits (Msg id) (ASet s) = refl
bare-fits (Sem id) (AQueue q) = refl
bare-fits (Sem id) (ASet s) = refl
bare-fits name body = refl

-- a process's body is the kernel's part
bare-living : (body : Body) (row : Row) → bare body ≡ Living row → body ≡ Living row
bare-living (Living r) row h = h
bare-living (Ended e) row h = absurd (cc)
bare-living Gone row h = absurd (cc)
bare-living (AQueue q) row h = absurd (cc)
bare-living (ASet s) row h = absurd (cc)
bare-living Removed row h = absurd (cc)

pub makes-own-here : (k : Kernel) (name : Name) (body : Body) (pid : ℕ) (call : Call) (m : MayMake k pid call)
    → name_for pid call ≡ Some name → bare body ≡ body_in k name → is_own pid call ≡ true → MakesOwn pid body
makes-own-here k name body pid call m named is own =
    let w = makes-own k pid call name m named own
    in record { row = w.row; lives = bare-living body w.row (is ∙ w.lives); apart = w.apart }

reaped-kept : (row : Row) (which : Option ℕ) (nohang : Bool) (w : Waited) (child : ℕ) (ending : Ending)
    → wait row.family which ≡ w → (reap row nohang w).own ≡ Some (replies.Child child ending)
    → Contains row.family.ended (ended_child child ending)
reaped-kept row which nohang (Found c e) child ending is h =
    let child_is : c ≡ child = cc
    in let ending_is : e ≡ ending = cc
    in found-contained row.family which child ending
    (is ∙ ap (λ x. Found x e) child_is ∙ ap (Found child) ending_is)
reaped-kept row which true NotYet child ending is h = absurd (cc)
reaped-kept row which false NotYet child ending is h = absurd (cc)
reaped-kept row which nohang NoChild child ending is h = absurd (cc)

-- a call on a process's row finds a child that it keeps
own-kept : (row : Row) (pid : ℕ) (call : Call) (child : ℕ) (ending : Ending)
    → (on_own row pid call).own ≡ Some (replies.Child child ending)
    → Contains row.family.ended (ended_child child ending)
own-kept row pid (calls.WaitPid which nohang) child ending h =
    reaped-kept row which nohang (wait row.family which) child ending refl h
own-kept row pid call child ending h =
    row-found row pid call child ending (some-is (on_row row pid call).reply (replies.Child child ending) h)

none-found-of : (b : Bool) (child : ℕ) (ending : Ending)
    → Some (if b then replies.Fail Esrch else replies.Num 0) ≡ Some (replies.Child child ending) → ⊥
none-found-of true child ending h = absurd (cc)
none-found-of false child ending h = absurd (cc)

-- a child that is found isn't the name's
found-apart : (k : Kernel) (name : Name) (body : Body) (who : Waiting) → IsValid k → bare body ≡ body_in k name
    → (child : ℕ) (ending : Ending) → (on_whole name body who).own ≡ Some (replies.Child child ending)
    → name ≢ Proc child
found-apart k (Msg id) body who valid is child ending own = λ same. absurd (cc)
found-apart k (Sem id) body who valid is child ending own = λ same. absurd (cc)
found-apart k (Proc p) (Living row) who valid is child ending own =
    λ same.
    ended-apart k p row valid (sym is) child ending (own-kept row who.pid who.call child ending own)
    (ap number_of same)
found-apart k (Proc p) (Ended e) who valid is child ending own =
    absurd (none-found-of (is_own who.pid who.call) child ending own)
found-apart k (Proc p) Gone who valid is child ending own = absurd (cc)
found-apart k (Proc p) (AQueue q) who valid is child ending own = absurd (cc)
found-apart k (Proc p) (ASet s) who valid is child ending own = absurd (cc)
found-apart k (Proc p) Removed who valid is child ending own = absurd (cc)

-- a node that holds the deed serves the call, also where it has to wait
pub serves-here : (k : Kernel) (name : Name) (body : Body) (who : Waiting) (deeds : Deeds)
    → MayMake k who.pid who.call → is_served (at_once who.call) ≡ true → name_for who.pid who.call ≡ Some name
    → get_named deeds name ≡ Some body → bare body ≡ body_in k name → ServesHere deeds name body who
serves-here k name body who deeds m served named held is =
    let d : Applied Body = on_whole name body who
    in let s = serves-on name body who served
    in let fits : fits_name name body ≡ true = sym (bare-fits name body) ∙ ap (fits_name name) is ∙ body-fits k name
    in let makes = makes-own-here k name body who.pid who.call m named is
    in let so : IsServedAs name d s.0 = served-is-on_whole name body who s.0 named fits makes s.1
    in let effect = serves-effect name body who s.0 named fits makes s.1
    in record {
      served = s.0;
      serves = serve-is deeds who name body served named held ∙ s.1;
      own = so.own;
      wakes = so.wakes;
      readers = sym (ap (λ (x : Served). x.readers) effect.served)
          ∙ ap (λ (own : Option Reply). readers_by body who own effect.made.wakes) effect.leaves.own
          ∙ ap (readers_by body who d.own) effect.leaves.wakes;
      deeds_are = ap (put_all deeds) so.changes;
      here = held-name deeds name d.left d.own (found-apart k name body who m.valid is);
      found = λ x yes. held-found deeds name d.left d.own x yes;
      others = λ x other not. held-other deeds name d.left d.own x other not;
    }
