-- How far the processes are that the code keeps is how far those of the history are.
use Rattle.std.proofs.Common.{◌≡◌, ◌∙◌, ℕ, ◌+◌, Bool, true, false, cond, not, [], ◌∷◌, drop, map, Option, Some, None, is_some, IsTrue, IfSome, refl, sym, ap, subst, Ordering}
use Rattle.std.specs.Prelude.{slice_get}
use Rattle.std.specs.declared.cmp.Ordering.TheVariants.{Less, Equal, Greater}
use Rattle.std.specs.Ordering.{nat_cmp, match_ordering}
use Rattle.std.specs.Option.{option_map, option_and_then, option_map_or}
use Rattle.std.specs.BTreeMap.{is_at}
use Rattle.std.proofs.lemmas.Bool.{and_parts}
use Rattle.pico_base.specs.declared.call.Call.{Call}
use Rattle.pico_base.specs.declared.call.Call.TheVariants as calls
use Rattle.pico_base.specs.declared.reply.Reply.{Reply}
use Rattle.pico_base.specs.declared.reply.Reply.TheVariants as replies
use Rattle.pico_base.specs.declared.script.Block.{Block}
use Rattle.pico_base.specs.declared.script.Line.{Line}
use Rattle.pico_base.specs.declared.script.Script.{Script}
use Rattle.pico_base.specs.declared.signal.Sig.{Sig}
use Rattle.number_maps.specs.Maps.{Numbered, get, put}
use Rattle.kernel_model.specs.Script.{Vars}
use Rattle.kernel_model.specs.Fitting.{Place, block_at, block_place, child_vars, due, is_due_again, is_killed, move_on, place_after, vars_after}
use Rattle.waiting_model.specs.Kernel.{Kernel, living_at}
use Rattle.waiting_model.specs.Fitting.{Progress, Places, after_entry, after_fork, after_wake, at_place, places_after}
use Rattle.waiting_model.specs.Fitting as fitting
use Rattle.node_model.specs.Caller.{answer_at, end_call, lines_in, lines_of}
use Rattle.node_calls.specs.Caller as callers
use Rattle.node_calls.specs.Caller.{BlockCaller}
use Rattle.node_calls.proofs.PlaceLemmas.{place-moves}
use Rattle.trace_check.specs.declared.cursor.Cursor.{Cursor}
use Rattle.trace_check.specs.Cursors.{IsIdle, IsSteady, MayMake, MayMakeAt, ended_if, place_of, progress_of, beginning, moved, parked_with, answered, answered_with, after_call, after_made, places_of, due_in, may_come_in, forked_by, with_forked}
use Rattle.trace_check.specs.FirstFault.{due_at, due_of, due_by, may_come, may_follow, may_stand, last_doom}
use Rattle.trace_check.specs.Judging.{so_far_of}
use Rattle.trace_check.proofs.CursorLaws.{has-line}

-- Maps whose values are all changed.

module _ {A B : Type 0} (f : A → B) where
  each : Numbered A → Numbered B
  each m = map (λ e. (e.0, f e.1)) m

  get-if : (b : Bool) (x : A) (m : Numbered A) (k : ℕ) → get (each m) k ≡ option_map f (get m k)
      → cond b (Some (f x)) (get (each m) k) ≡ option_map f (cond b (Some x) (get m k))
  get-if true x m k rest = refl
  get-if false x m k rest = rest

  get-each : (m : Numbered A) (k : ℕ) → get (each m) k ≡ option_map f (get m k)
  unfolding each
  get-each [] k = refl
  get-each (e ∷ m) k = get-if (is_at (nat_cmp k) e.0) e.1 m k (get-each m k)

  put-by : (o : Ordering) (e : ℕ × A) (m : Numbered A) (k : ℕ) (x : A)
      → put (each m) k (f x) ≡ each (put m k x)
      → match_ordering o ((k, f x) ∷ (e.0, f e.1) ∷ each m) ((e.0, f x) ∷ each m) ((e.0, f e.1) ∷ put (each m) k (f x))
      ≡ each (match_ordering o ((k, x) ∷ e ∷ m) ((e.0, x) ∷ m) (e ∷ put m k x))
  unfolding each
  put-by Less e m k x rest = refl
  put-by Equal e m k x rest = refl
  put-by Greater e m k x rest = ap (λ (es : Numbered B). (e.0, f e.1) ∷ es) rest

  put-each : (m : Numbered A) (k : ℕ) (x : A) → put (each m) k (f x) ≡ each (put m k x)
  unfolding each
  put-each [] k x = refl
  put-each (e ∷ m) k x = put-by (nat_cmp k e.0) e m k x (put-each m k x)

-- how far a process is by its number
pub progress-at : (script : Script) (cursors : Numbered Cursor) (pid : ℕ)
    → get (places_of script cursors) pid ≡ option_map (progress_of script) (get cursors pid)
unfolding each
progress-at script cursors pid = get-each (progress_of script) cursors pid

-- a cursor put in is its progress put in
pub progress-put : (script : Script) (cursors : Numbered Cursor) (pid : ℕ) (c : Cursor)
    → put (places_of script cursors) pid (progress_of script c) ≡ places_of script (put cursors pid c)
unfolding each
progress-put script cursors pid c = put-each (progress_of script) cursors pid c

-- What is due, and what may come.

due-each : (script : Script) (pid : ℕ) (doom : Option Sig) (o : Option Cursor)
    → option_and_then (due_of pid doom) (option_map (progress_of script) o)
    ≡ option_and_then (λ (c : Cursor). due_of pid doom (progress_of script c)) o
due-each script pid doom None = refl
due-each script pid doom (Some c) = refl

-- the code's due call is the one that is due
pub due-is : (script : Script) (kernel : Kernel) (cursors : Numbered Cursor) (pid : ℕ)
    → due_at (so_far_of script kernel cursors) pid ≡ due_in script cursors pid (last_doom (living_at kernel pid))
due-is script kernel cursors pid =
    ap (option_and_then (due_of pid (last_doom (living_at kernel pid)))) (progress-at script cursors pid)
    ∙ due-each script pid (last_doom (living_at kernel pid)) (get cursors pid)

come-each : (script : Script) (pid : ℕ) (doom : Option Sig) (call : Call) (o : Option Cursor)
    → option_map_or (λ (p : Progress). may_follow script pid doom p call) (option_map (progress_of script) o) false
    ≡ option_map_or (λ (c : Cursor). may_follow script pid doom (progress_of script c) call) o false
come-each script pid doom call None = refl
come-each script pid doom call (Some c) = refl

-- the code's answer is whether the call may come
pub come-is : (script : Script) (kernel : Kernel) (cursors : Numbered Cursor) (pid : ℕ) (call : Call)
    → may_come script (so_far_of script kernel cursors) pid call
    ≡ may_come_in script cursors pid (last_doom (living_at kernel pid)) call
come-is script kernel cursors pid call =
    ap (λ (o : Option Progress).
    option_map_or (λ (p : Progress). may_follow script pid (last_doom (living_at kernel pid)) p call) o false)
    (progress-at script cursors pid)
    ∙ come-each script pid (last_doom (living_at kernel pid)) call (get cursors pid)

due-some : (doom : Option Sig) (o : Option Call) (script : Script) (call : Call)
    → may_stand script doom (due_by doom o) call ≡ true → is_some o ≡ true
due-some doom None script call may = absurd (cc)
due-some doom (Some x) script call may = refl

no-call-under-way : (o : Option Call) → not (is_some o) ≡ true → o ≡ None
no-call-under-way None h = refl
no-call-under-way (Some call) h = absurd (cc)

-- who may make a call has one due, and none under way
may-make : (script : Script) (pid : ℕ) (doom : Option Sig) (c : Cursor) (call : Call)
    → may_follow script pid doom (progress_of script c) call ≡ true → MayMake script c call
may-make script pid doom c (calls.Withdraw name) may = tt
may-make script pid doom c call may =
    let p = and_parts (not (is_some c.caller.caller.under_way))
    (may_stand script doom (due_by doom (due (place_of script c))) call) may in
    (no-call-under-way c.caller.caller.under_way p.0, due-some doom (due (place_of script c)) script call p.1)

-- the process that a call may come of is there
pub record MayCome (script : Script) (cursors : Numbered Cursor) (pid : ℕ) (call : Call) : Type 0 where
  pub cursor : Cursor
  pub there : get cursors pid ≡ Some cursor
  pub may : MayMake script cursor call

comes-of : (script : Script) (cursors : Numbered Cursor) (pid : ℕ) (doom : Option Sig) (call : Call)
    → (o : Option Cursor) → get cursors pid ≡ o
    → option_map_or (λ (c : Cursor). may_follow script pid doom (progress_of script c) call) o false ≡ true
    → MayCome script cursors pid call
comes-of script cursors pid doom call None there may = absurd (cc)
comes-of script cursors pid doom call (Some c) there may =
    record { cursor = c; there = there; may = may-make script pid doom c call may }

-- a call that may come has a cursor
pub comes : (script : Script) (cursors : Numbered Cursor) (pid : ℕ) (doom : Option Sig) (call : Call)
    → may_come_in script cursors pid doom call ≡ true → MayCome script cursors pid call
comes script cursors pid doom call may = comes-of script cursors pid doom call (get cursors pid) refl may

-- and may make the call
pub may-make-at : (script : Script) (cursors : Numbered Cursor) (pid : ℕ) (doom : Option Sig) (call : Call)
    → may_come_in script cursors pid doom call ≡ true → MayMakeAt script cursors pid call
may-make-at script cursors pid doom call may =
    let m = comes script cursors pid doom call may in
    subst (λ (o : Option Cursor). IfSome o (λ c. MayMake script c call)) (sym m.there) m.may

-- A process with a call due lives, and its line stands in its block.
pub record IsLive (script : Script) (c : Cursor) : Type 0 where
  pub alive : c.is_killed ≡ false
  pub line : callers.HasLine script c.caller

live-by : (script : Script) (c : Cursor) (b : Bool) → c.is_killed ≡ b
    → is_some (due (ended_if b (callers.place_of script c.caller))) ≡ true → IsLive script c
live-by script c true is some = absurd (cc)
live-by script c false is some = record { alive = is; line = has-line script c some }

pub live : (script : Script) (c : Cursor) → IsTrue (is_some (due (place_of script c))) → IsLive script c
live script c some = live-by script c c.is_killed refl some

-- What a call leads to.

progress-is : (p : Progress) (place : Place) (waits : Bool) → p.place ≡ place → p.parked ≡ waits
    → p ≡ record { place = place; parked = waits }
progress-is p place waits at is =
    ap (λ (x : Place). record { place = x; parked = p.parked }) at
    ∙ ap (λ (b : Bool). record { place = place; parked = b }) is

idle-again : (c : BlockCaller) (line : Line) (vars : Vars) (b : Bool)
    → (cond b (record (end_call c.caller) { tried = c.caller.tried + 1 })
    (record (end_call c.caller) { line = c.caller.line + 1; tried = 0; vars = vars })).under_way ≡ None
idle-again c line vars true = refl
idle-again c line vars false = refl

idle-at : (c : BlockCaller) (call : Call) (reply : Reply) (o : Option Line)
    → (answer_at c.caller call reply o).under_way ≡ None
idle-at c call reply None = refl
idle-at c call reply (Some line) =
    idle-again c line (vars_after c.caller.vars line.set reply)
    (is_due_again call reply c.caller.tried line.tries)

-- no call is under way once it has its reply
pub idle-answered : (script : Script) (c : BlockCaller) (call : Call) (reply : Reply)
    → (callers.answered script c call reply).caller.under_way ≡ None
idle-answered script c call reply = idle-at c call reply (slice_get (lines_of script c.block) c.caller.line)

living-moves : (script : Script) (c : Cursor) (caller : BlockCaller) (call : Call) (reply : Reply)
    → callers.HasLine script caller → callers.place_of script caller ≡ callers.place_of script c.caller
    → (b : Bool) → c.is_killed ≡ b → b ≡ false
    → place_of script (record c { caller = callers.answered script caller call reply })
    ≡ place_after (place_of script c) call (Some reply)
living-moves script c caller call reply line same true killed alive = absurd (cc)
living-moves script c caller call reply line same false killed alive =
    ap (λ (k : Bool). ended_if k (callers.place_of script (callers.answered script caller call reply))) killed
    ∙ place-moves script caller call reply line
    ∙ ap (λ (x : Place). place_after x call (Some reply)) same
    ∙ ap (λ (k : Bool). place_after (ended_if k (callers.place_of script c.caller)) call (Some reply)) (sym killed)

moves-by : (script : Script) (c : Cursor) (call : Call) (reply : Reply) → IsLive script c → IsIdle c → (b : Bool)
    → progress_of script (cond b (record c { is_killed = true })
    (record c { caller = callers.answered script (callers.started c.caller call) call reply }))
    ≡ at_place (cond b (record (place_of script c) { left = [] }) (place_after (place_of script c) call (Some reply)))
moves-by script c call reply is idle false =
    progress-is (progress_of script
    (record c { caller = callers.answered script (callers.started c.caller call) call reply }))
    (place_after (place_of script c) call (Some reply)) false
    (living-moves script c (callers.started c.caller call) call reply is.line refl c.is_killed refl is.alive)
    (ap is_some (idle-answered script (callers.started c.caller call) call reply))
moves-by script c call reply is idle true =
    progress-is (progress_of script (record c { is_killed = true })) (record (place_of script c) { left = [] }) false
    (ap (λ (k : Bool). record (ended_if k (callers.place_of script c.caller)) { left = [] }) (sym is.alive))
    (ap is_some idle)

-- a call with its reply moves the process as in a history
moves : (script : Script) (c : Cursor) (call : Call) (reply : Reply) → IsLive script c → IsIdle c
    → progress_of script (moved script c call reply) ≡ at_place (move_on (place_of script c) call (Some reply))
moves script c call reply is idle = moves-by script c call reply is idle (is_killed call)

parks-with : (script : Script) (c : Cursor) (o : Option Call) → is_some o ≡ true
    → progress_of script (parked_with c o) ≡ record { place = place_of script c; parked = true }
parks-with script c None some = absurd (cc)
parks-with script c (Some call) some = refl

answers-with : (script : Script) (c : Cursor) (reply : Reply) (o : Option Call) → c.caller.caller.under_way ≡ o
    → IfSome o (λ call. due (place_of script c) ≡ Some call)
    → progress_of script (answered_with script c reply o) ≡ after_wake reply (progress_of script c)
answers-with script c reply None is waits =
    ap (λ (u : Option Call). cond (is_some u)
    (at_place (fitting.answered (place_of script c) (due (place_of script c)) reply)) (progress_of script c)) (sym is)
answers-with script c reply (Some call) is waits =
    let l = live script c (ap is_some waits) in
    progress-is (progress_of script (record c { caller = callers.answered script c.caller call reply }))
    (place_after (place_of script c) call (Some reply)) false
    (living-moves script c c.caller call reply l.line refl c.is_killed refl l.alive)
    (ap is_some (idle-answered script c.caller call reply))
    ∙ ap (λ (d : Option Call). at_place (fitting.answered (place_of script c) d reply)) (sym waits)
    ∙ ap (λ (u : Option Call). cond (is_some u)
    (at_place (fitting.answered (place_of script c) (due (place_of script c)) reply)) (progress_of script c)) (sym is)

-- the reply to the call that waits moves the process as in a history
pub answers : (script : Script) (c : Cursor) (reply : Reply) → IsSteady script c
    → progress_of script (answered script c reply) ≡ after_wake reply (progress_of script c)
answers script c reply steady = answers-with script c reply c.caller.caller.under_way refl steady.waits

-- what a call leads to is what it leads to in a history
goes-on : (script : Script) (c : Cursor) (call : Call) (own : Option Reply) → IsSteady script c → MayMake script c call
    → progress_of script (after_call script c call own) ≡ after_entry call own (progress_of script c)
goes-on script c (calls.Withdraw name) None steady may = refl
goes-on script c (calls.Withdraw name) (Some reply) steady may = answers script c reply steady
goes-on script c call None steady may = parks-with script c (due (place_of script c)) may.1
goes-on script c call (Some reply) steady may = moves script c call reply (live script c may.1) may.0

begins-at : (o : Option Block) (vars : Vars)
    → record { left = drop 0 (lines_in o); tried = 0; vars = vars } ≡ block_place o vars
begins-at None vars = refl
begins-at (Some block) vars = refl

-- a process begins at the first line of its block
pub begins : (script : Script) (block : ℕ) (vars : Vars)
    → progress_of script (beginning block vars) ≡ at_place (block_place (block_at script block) vars)
begins script block vars = ap at_place (begins-at (block_at script block) vars)

-- a fork puts the child at the first line of its block
forks : (script : Script) (cursors : Numbered Cursor) (c : Cursor) (call : Call) (own : Option Reply)
    → places_of script (with_forked cursors (forked_by script c call own))
    ≡ after_fork script (places_of script cursors) (place_of script c) call own
forks script cursors c (calls.Fork block) (Some (replies.Num child)) =
    sym (progress-put script cursors child (beginning block (child_vars (place_of script c))))
    ∙ ap (put (places_of script cursors) child) (begins script block (child_vars (place_of script c)))
forks script cursors c (calls.Fork block) own = refl
forks script cursors c call own = refl

-- the caller's entry, and its fork
pub makes : (script : Script) (cursors : Numbered Cursor) (pid : ℕ) (call : Call) (own : Option Reply) (c : Cursor)
    → IsSteady script c → MayMake script c call
    → places_of script (after_made script cursors pid call own (Some c))
    ≡ after_fork script (put (places_of script cursors) pid (after_entry call own (progress_of script c)))
    (place_of script c) call own
makes script cursors pid call own c steady may =
    forks script (put cursors pid (after_call script c call own)) c call own
    ∙ ap (λ (ps : Places). after_fork script ps (place_of script c) call own)
    (sym (progress-put script cursors pid (after_call script c call own))
    ∙ ap (put (places_of script cursors) pid) (goes-on script c call own steady may))
