-- Cursors stay steady, and those who are woken go on as in a history.
use Rattle.std.proofs.Common.{◌≡◌, ◌∙◌, ℕ, ◌+◌, Bool, true, false, cond, List, [], ◌∷◌, Option, Some, None, IfSome, refl, sym, ap, subst, Ordering}
use Rattle.std.specs.Prelude.{slice_get, fold}
use Rattle.std.specs.declared.cmp.Ordering.TheVariants.{Less, Equal, Greater}
use Rattle.std.specs.Ordering.{nat_cmp, match_ordering}
use Rattle.std.specs.Option.{option_map}
use Rattle.std.specs.BTreeMap.{is_at}
use Rattle.std.specs.List.{AllByRecursion}
use Rattle.std.proofs.lemmas.Option.{same_Some}
use Rattle.pico_base.specs.declared.call.Call.{Call}
use Rattle.pico_base.specs.declared.call.Call.TheVariants as calls
use Rattle.pico_base.specs.declared.reply.Outcome.{Outcome}
use Rattle.pico_base.specs.declared.reply.Reply.{Reply}
use Rattle.pico_base.specs.declared.reply.Reply.TheVariants as replies
use Rattle.pico_base.specs.declared.script.Line.{Line}
use Rattle.pico_base.specs.declared.script.Script.{Script}
use Rattle.number_maps.specs.Maps.{Numbered, get, put}
use Rattle.kernel_model.specs.Script.{Vars}
use Rattle.kernel_model.specs.Fitting.{Place, child_vars, child_vars_at, due, is_due_again, is_killed, set_variable, value_in}
use Rattle.waiting_model.specs.Fitting.{Progress, Places, after_entry, after_fork, after_wake}
use Rattle.waiting_model.specs.Fitting as fitting
use Rattle.node_model.specs.Caller.{answer_at, end_call, lines_of}
use Rattle.node_calls.specs.Caller as callers
use Rattle.node_calls.specs.Caller.{BlockCaller}
use Rattle.node_calls.proofs.VariableLemmas.{rising-put}
use Rattle.trace_check.specs.declared.cursor.Cursor.{Cursor}
use Rattle.trace_check.specs.Cursors.{IsIdle, IsSteady, AreSteady, MayMake, MayMakeAt, ended_if, place_of, progress_of, beginning, parked_with, answered, answered_with, after_call, after_made, after_woken, woken_at, places_of, forked_at, forked_by, may_fork, with_forked, moved_at, moved_on}
use Rattle.trace_check.specs.FirstFault.{places_with}
use Rattle.trace_check.proofs.PlaceLaws.{answers, idle-answered, makes, progress-at, progress-put}

-- Maps all of whose values are so.

all-put-by : (P : Cursor → Type 0) (o : Ordering) (e : ℕ × Cursor) (m : Numbered Cursor) (k : ℕ) (x : Cursor)
    → P x → P e.1 → AllByRecursion (λ (y : ℕ × Cursor). P y.1) m
    → AllByRecursion (λ (y : ℕ × Cursor). P y.1) (put m k x)
    → AllByRecursion (λ (y : ℕ × Cursor). P y.1)
    (match_ordering o ((k, x) ∷ e ∷ m) ((e.0, x) ∷ m) (e ∷ put m k x))
all-put-by P Less e m k x new first rest later = (new, (first, rest))
all-put-by P Equal e m k x new first rest later = (new, rest)
all-put-by P Greater e m k x new first rest later = (first, later)

all-put : (P : Cursor → Type 0) (m : Numbered Cursor) (k : ℕ) (x : Cursor) → P x
    → AllByRecursion (λ (y : ℕ × Cursor). P y.1) m → AllByRecursion (λ (y : ℕ × Cursor). P y.1) (put m k x)
all-put P [] k x new all = (new, tt)
all-put P (e ∷ m) k x new all =
    all-put-by P (nat_cmp k e.0) e m k x new all.0 all.1 (all-put P m k x new all.1)

all-at-by : (P : Cursor → Type 0) (b : Bool) (e : ℕ × Cursor) (m : Numbered Cursor) (k : ℕ) (x : Cursor)
    → P e.1 → (get m k ≡ Some x → P x) → cond b (Some e.1) (get m k) ≡ Some x → P x
all-at-by P true e m k x first later there = subst P (same_Some e.1 x there) first
all-at-by P false e m k x first later there = later there

all-at : (P : Cursor → Type 0) (m : Numbered Cursor) (k : ℕ) (x : Cursor)
    → AllByRecursion (λ (y : ℕ × Cursor). P y.1) m → get m k ≡ Some x → P x
all-at P [] k x all there = absurd (cc)
all-at P (e ∷ m) k x all there =
    all-at-by P (is_at (nat_cmp k) e.0) e m k x all.0 (all-at P m k x all.1) there

-- each process that is looked up is steady
pub steady-at : (script : Script) (cursors : Numbered Cursor) (pid : ℕ) (c : Cursor) → AreSteady script cursors
    → get cursors pid ≡ Some c → IsSteady script c
steady-at script cursors pid c all there = all-at (IsSteady script) cursors pid c all there

-- One cursor.

rising-with : (vars : Vars) (v : Option ℕ) (n : ℕ) → callers.are_rising vars ≡ true
    → callers.are_rising (set_variable vars v n) ≡ true
rising-with vars None n h = h
rising-with vars (Some v) n h = rising-put vars v n h

rising-again : (c : BlockCaller) (line : Line) (n : ℕ) (b : Bool) → callers.are_rising c.caller.vars ≡ true
    → callers.are_rising (cond b (record (end_call c.caller) { tried = c.caller.tried + 1 })
    (record (end_call c.caller) {
      line = c.caller.line + 1;
      tried = 0;
      vars = set_variable c.caller.vars line.set n;
    })).vars ≡ true
rising-again c line n true rising = rising
rising-again c line n false rising = rising-with c.caller.vars line.set n rising

rising-at : (c : BlockCaller) (call : Call) (reply : Reply) (o : Option Line)
    → callers.are_rising c.caller.vars ≡ true → callers.are_rising (answer_at c.caller call reply o).vars ≡ true
rising-at c call reply None rising = rising
rising-at c call reply (Some line) rising =
    rising-again c line (value_in (Some reply)) (is_due_again call reply c.caller.tried line.tries) rising

-- the variables rise behind a reply
rising-answered : (script : Script) (c : BlockCaller) (call : Call) (reply : Reply)
    → callers.are_rising c.caller.vars ≡ true
    → callers.are_rising (callers.answered script c call reply).caller.vars ≡ true
rising-answered script c call reply rising =
    rising-at c call reply (slice_get (lines_of script c.block) c.caller.line) rising

-- one whose call isn't under way is steady where its variables rise
idle-steady : (script : Script) (c : Cursor) → IsIdle c → callers.are_rising c.caller.caller.vars ≡ true
    → IsSteady script c
idle-steady script c idle rising =
    record {
      waits = subst (λ (o : Option Call). IfSome o (λ call. due (place_of script c) ≡ Some call)) (sym idle) tt;
      rising = rising;
    }

moved-steady : (script : Script) (c : Cursor) (call : Call) (reply : Reply) → IsSteady script c → IsIdle c → (b : Bool)
    → IsSteady script (cond b (record c { is_killed = true })
    (record c { caller = callers.answered script (callers.started c.caller call) call reply }))
moved-steady script c call reply was idle true =
    idle-steady script (record c { is_killed = true }) idle was.rising
moved-steady script c call reply was idle false =
    idle-steady script (record c { caller = callers.answered script (callers.started c.caller call) call reply })
    (idle-answered script (callers.started c.caller call) call reply)
    (rising-answered script (callers.started c.caller call) call reply was.rising)

parked-steady : (script : Script) (c : Cursor) → IsSteady script c → (o : Option Call) → due (place_of script c) ≡ o
    → IsSteady script (parked_with c o)
parked-steady script c was None is = was
parked-steady script c was (Some call) is = record { waits = is; rising = was.rising }

answered-steady : (script : Script) (c : Cursor) (reply : Reply) → IsSteady script c → (o : Option Call)
    → IsSteady script (answered_with script c reply o)
answered-steady script c reply was None = was
answered-steady script c reply was (Some call) =
    idle-steady script (record c { caller = callers.answered script c.caller call reply })
    (idle-answered script c.caller call reply) (rising-answered script c.caller call reply was.rising)

-- an entry leaves its process steady
pub steady-after-call : (script : Script) (c : Cursor) (call : Call) (own : Option Reply) → IsSteady script c
    → MayMake script c call → IsSteady script (after_call script c call own)
steady-after-call script c (calls.Withdraw name) None was may = was
steady-after-call script c (calls.Withdraw name) (Some reply) was may =
    answered-steady script c reply was c.caller.caller.under_way
steady-after-call script c call None was may = parked-steady script c was (due (place_of script c)) refl
steady-after-call script c call (Some reply) was may = moved-steady script c call reply was may.0 (is_killed call)

child-rising : (vars : Vars) (lines : List Line) → callers.are_rising vars ≡ true
    → callers.are_rising (child_vars_at vars lines) ≡ true
child-rising vars [] h = h
child-rising vars (line ∷ lines) h = rising-with vars line.set 0 h

ended-vars : (b : Bool) (place : Place) → callers.are_rising place.vars ≡ true
    → callers.are_rising (ended_if b place).vars ≡ true
ended-vars true place h = h
ended-vars false place h = h

-- the variables of a forked process come by rising variable
pub child-vars-rise : (script : Script) (c : Cursor) → IsSteady script c
    → callers.are_rising (child_vars (place_of script c)) ≡ true
child-vars-rise script c was =
    child-rising (place_of script c).vars (place_of script c).left
    (ended-vars c.is_killed (callers.place_of script c.caller) was.rising)

-- All cursors.

forked-steady : (script : Script) (cursors : Numbered Cursor) (c : Cursor) (call : Call) (own : Option Reply)
    → IsSteady script c → AreSteady script cursors
    → AreSteady script (with_forked cursors (forked_by script c call own))
forked-steady script cursors c (calls.Fork block) (Some (replies.Num child)) was all =
    all-put (IsSteady script) cursors child (beginning block (child_vars (place_of script c)))
    (record { waits = tt; rising = child-vars-rise script c was }) all
forked-steady script cursors c (calls.Fork block) own was all = all
forked-steady script cursors c call own was all = all

made-steady : (script : Script) (cursors : Numbered Cursor) (pid : ℕ) (call : Call) (own : Option Reply)
    → (o : Option Cursor) → get cursors pid ≡ o → AreSteady script cursors → IfSome o (λ c. MayMake script c call)
    → AreSteady script (after_made script cursors pid call own o)
made-steady script cursors pid call own None there all may = all
made-steady script cursors pid call own (Some c) there all may =
    let was = steady-at script cursors pid c all there in
    forked-steady script (put cursors pid (after_call script c call own)) c call own was
    (all-put (IsSteady script) cursors pid (after_call script c call own)
    (steady-after-call script c call own was may) all)

-- processes stay steady behind an entry
pub steady-after-made : (script : Script) (cursors : Numbered Cursor) (pid : ℕ) (call : Call) (own : Option Reply)
    → AreSteady script cursors → MayMakeAt script cursors pid call
    → AreSteady script (after_made script cursors pid call own (get cursors pid))
steady-after-made script cursors pid call own all may =
    made-steady script cursors pid call own (get cursors pid) refl all may

woken-steady : (script : Script) (cursors : Numbered Cursor) (w : ℕ × Reply) (o : Option Cursor)
    → get cursors w.0 ≡ o → AreSteady script cursors → AreSteady script (woken_at script cursors w o)
woken-steady script cursors w None there all = all
woken-steady script cursors w (Some c) there all =
    all-put (IsSteady script) cursors w.0 (answered script c w.1)
    (answered-steady script c w.1 (steady-at script cursors w.0 c all there) c.caller.caller.under_way) all

-- and where one is woken
pub steady-after-woken : (script : Script) (cursors : Numbered Cursor) (w : ℕ × Reply) → AreSteady script cursors
    → AreSteady script (after_woken script cursors w)
steady-after-woken script cursors w all = woken-steady script cursors w (get cursors w.0) refl all

-- Those who are woken.

wakes-at : (script : Script) (cursors : Numbered Cursor) (w : ℕ × Reply) (o : Option Cursor) → get cursors w.0 ≡ o
    → AreSteady script cursors
    → places_of script (woken_at script cursors w o)
    ≡ fitting.woken_at (places_of script cursors) w (option_map (progress_of script) o)
wakes-at script cursors w None there all = refl
wakes-at script cursors w (Some c) there all =
    sym (progress-put script cursors w.0 (answered script c w.1))
    ∙ ap (put (places_of script cursors) w.0)
    (answers script c w.1 (steady-at script cursors w.0 c all there))

wakes-one : (script : Script) (cursors : Numbered Cursor) (w : ℕ × Reply) → AreSteady script cursors
    → places_of script (after_woken script cursors w) ≡ fitting.after_woken (places_of script cursors) w
wakes-one script cursors w all =
    wakes-at script cursors w (get cursors w.0) refl all
    ∙ ap (fitting.woken_at (places_of script cursors) w) (sym (progress-at script cursors w.0))

-- those who are woken go on as in a history
wakes-all : (script : Script) (ws : List (ℕ × Reply)) (cursors : Numbered Cursor) → AreSteady script cursors
    → places_of script (fold (after_woken script) cursors ws)
    ≡ fold fitting.after_woken (places_of script cursors) ws
wakes-all script [] cursors all = refl
wakes-all script (w ∷ ws) cursors all =
    wakes-all script ws (after_woken script cursors w) (steady-after-woken script cursors w all)
    ∙ ap (λ (ps : Places). fold fitting.after_woken ps ws) (wakes-one script cursors w all)

-- the places after an entry are those of the history
pub after-entry : (script : Script) (cursors : Numbered Cursor) (pid : ℕ) (call : Call) (outcome : Outcome) (c : Cursor)
    → get cursors pid ≡ Some c → MayMake script c call → AreSteady script cursors
    → places_of script (moved_on script cursors pid call outcome)
    ≡ places_with script (places_of script cursors) pid call outcome (get (places_of script cursors) pid)
after-entry script cursors pid call outcome c there may all =
    let was = steady-at script cursors pid c all there in
    let at : get (places_of script cursors) pid ≡ Some (progress_of script c) =
    progress-at script cursors pid ∙ ap (option_map (progress_of script)) there in
    let made : Numbered Cursor = after_made script cursors pid call outcome.own (Some c) in
    let steady : AreSteady script made =
    made-steady script cursors pid call outcome.own (Some c) there all may in
    ap (λ (o : Option Cursor). places_of script
    (fold (after_woken script) (after_made script cursors pid call outcome.own o) outcome.woken)) there
    ∙ wakes-all script outcome.woken made steady
    ∙ ap (λ (ps : Places). fold fitting.after_woken ps outcome.woken)
    (makes script cursors pid call outcome.own c was may)
    ∙ ap (places_with script (places_of script cursors) pid call outcome) (sym at)

-- What is written back at a process's number.

-- that process after its entry, by a number that is its own
pub move-lands : (script : Script) (cs : Numbered Cursor) (n pid : ℕ) (call : Call) (own : Option Reply) (v w : Cursor)
    → n ≡ pid → get cs n ≡ Some v → w ≡ after_call script v call own
    → put cs n w ≡ moved_at script cs pid call own (get cs pid)
move-lands script cs n pid call own v w same there is = rw (← same, there) (ap (put cs n) is)

-- that process once it is woken
pub wake-lands : (script : Script) (cs : Numbered Cursor) (n pid : ℕ) (reply : Reply) (v w : Cursor) → n ≡ pid
    → get cs n ≡ Some v → w ≡ answered script v reply → put cs n w ≡ after_woken script cs (pid, reply)
wake-lands script cs n pid reply v w same there is = rw (← same, there) (ap (put cs n) is)

-- only a fork makes a process
pub no-child : (script : Script) (o : Option Cursor) (call : Call) (own : Option Reply) → may_fork call ≡ false
    → forked_at script o call own ≡ None
no-child script None call own other = refl
no-child script (Some c) (calls.Fork block) own other = absurd cc
no-child script (Some c) call own other = refl
