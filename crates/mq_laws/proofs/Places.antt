-- The places of the processes in the script of System V are those in the given script, line for line.
use Rattle.std.proofs.Common.{◌≡◌, ◌∙◌, ℕ, ◌+◌, Bool, true, false, ◌&&◌, List, [], ◌∷◌, map, Option, Some, None, is_some, refl, ap}
use Rattle.std.specs.Prelude.{if◌then◌else◌, fold, nat_lt, ◌-◌}
use Rattle.std.specs.Option.{option_map}
use Rattle.std.proofs.lemmas.Option.{slice_get-map}
use Rattle.pico_base.specs.declared.call.Call.{Call}
use Rattle.pico_base.specs.declared.call.Call.TheVariants as calls
use Rattle.pico_base.specs.declared.reply.Entry.{Entry}
use Rattle.pico_base.specs.declared.reply.Reply.{Reply}
use Rattle.pico_base.specs.declared.reply.Reply.TheVariants as replies
use Rattle.pico_base.specs.declared.script.Line.{Line}
use Rattle.pico_base.specs.declared.script.Block.{Block}
use Rattle.pico_base.specs.declared.script.Script.{Script}
use Rattle.number_maps.specs.Maps.{get, put}
use Rattle.kernel_model.specs.Script.{Vars, call_from, call_of, is_exit, with_exit}
use Rattle.kernel_model.specs.Fitting.{Place, after_reply, asks_again, block_at, block_place, child_vars, child_vars_at, due, is_due_again, is_killed, is_waitpid, move_on, place_after, value_in, vars_after}
use Rattle.waiting_model.specs.Fitting.{Places, Progress, after_entry, after_fork, after_own, after_wake, after_woken, answered, at_place, opening_places, places_after, woken_at}
use Rattle.waiting_model.specs.Plain.{each}
use Rattle.waiting_laws.proofs.Maps.{get-each, put-each}
use Rattle.mq_model.specs.SystemV.{refusal_of, carried_out, system_v_call, system_v_line, system_v_block, system_v}

-- ---- calls

-- what doesn't tell a look at the pending signals from a call doesn't tell what stands in its place
if-same : {A : Type 0} (f : Call → A) (b : Bool) (call : Call) → f calls.SigPending ≡ f call
    → f (if b then calls.SigPending else call) ≡ f call
if-same f true call h = h
if-same f false call h = refl

same-waitpid : (call : Call) → is_waitpid (system_v_call call) ≡ is_waitpid call
same-waitpid (calls.MsgSnd id class text nowait) =
    if-same is_waitpid (is_some (refusal_of (calls.MsgSnd id class text nowait)))
    (carried_out (calls.MsgSnd id class text nowait)) refl
same-waitpid (calls.MsgRcv id class size noerror nowait) =
    if-same is_waitpid (is_some (refusal_of (calls.MsgRcv id class size noerror nowait)))
    (carried_out (calls.MsgRcv id class size noerror nowait)) refl
same-waitpid call = refl

same-exit : (call : Call) → is_exit (system_v_call call) ≡ is_exit call
same-exit (calls.MsgSnd id class text nowait) =
    if-same is_exit (is_some (refusal_of (calls.MsgSnd id class text nowait)))
    (carried_out (calls.MsgSnd id class text nowait)) refl
same-exit (calls.MsgRcv id class size noerror nowait) =
    if-same is_exit (is_some (refusal_of (calls.MsgRcv id class size noerror nowait)))
    (carried_out (calls.MsgRcv id class size noerror nowait)) refl
same-exit call = refl

-- a variable stands for the same number
named : (vars : Vars) (from : Option ℕ) (b : Bool) (call other : Call) → call_from other vars from ≡ call
    → call_from (if b then calls.SigPending else other) vars (if b then None else from)
    ≡ (if b then calls.SigPending else call)
named vars from true call other h = refl
named vars from false call other h = h

by-line : (call : Call) (vars : Vars) (from : Option ℕ)
    → call_from (system_v_call call) vars (if is_some (refusal_of call) then None else from)
    ≡ system_v_call (call_from call vars from)
by-line (calls.MsgSnd id class text nowait) vars None =
    named vars None (is_some (refusal_of (calls.MsgSnd id class text nowait))) _ _ refl
by-line (calls.MsgSnd id class text nowait) vars (Some v) =
    named vars (Some v) (is_some (refusal_of (calls.MsgSnd id class text nowait))) _
    (carried_out (calls.MsgSnd id class text nowait)) refl
by-line (calls.MsgRcv id class size noerror nowait) vars None =
    named vars None (is_some (refusal_of (calls.MsgRcv id class size noerror nowait))) _ _ refl
by-line (calls.MsgRcv id class size noerror nowait) vars (Some v) =
    named vars (Some v) (is_some (refusal_of (calls.MsgRcv id class size noerror nowait))) _
    (carried_out (calls.MsgRcv id class size noerror nowait)) refl
by-line (calls.WaitPid (Some child) nohang) vars (Some v) = refl
by-line (calls.WaitPid None nohang) vars (Some v) = refl
by-line call vars None = refl
by-line call vars (Some v) = refl

-- a line's call is that of the given line's
pub same-call : (line : Line) (vars : Vars) → call_of (system_v_line line) vars ≡ system_v_call (call_of line vars)
same-call line vars = by-line line.call vars line.from

-- ---- places

-- a place in the given script as one in the script of System V, line for line
abbrev pub system_v_place : Place → Place
system_v_place place = record place { left = map system_v_line place.left }

-- how far a process is, as it is in the script of System V
abbrev pub system_v_progress : Progress → Progress
system_v_progress p = record p { place = system_v_place p.place }

-- the same of each process
abbrev pub system_v_places : Places → Places
system_v_places places = each system_v_progress places

due-in : (lines : List Line) (tried : ℕ) (vars : Vars)
    → due (record { left = map system_v_line lines; tried = tried; vars = vars })
    ≡ option_map system_v_call (due (record { left = lines; tried = tried; vars = vars }))
due-in [] tried vars = refl
due-in (line ∷ lines) tried vars = ap Some (same-call line vars)

-- the call that is due
pub same-due : (place : Place) → due (system_v_place place) ≡ option_map system_v_call (due place)
same-due place = due-in place.left place.tried place.vars

exits-if : (b : Bool) (line : Line) (lines rest : List Line) → rest ≡ map system_v_line lines
    → (if b then system_v_line line ∷ [] else system_v_line line ∷ rest)
    ≡ map system_v_line (if b then line ∷ [] else line ∷ lines)
exits-if true line lines rest h = refl
exits-if false line lines rest h = ap (λ (xs : List Line). system_v_line line ∷ xs) h

same-lines : (lines : List Line) → with_exit (map system_v_line lines) ≡ map system_v_line (with_exit lines)
same-lines [] = refl
same-lines (line ∷ lines) =
    ap
    (λ (b : Bool).
    (if b then system_v_line line ∷ [] else system_v_line line ∷ with_exit (map system_v_line lines)))
    (same-exit line.call)
    ∙ exits-if (is_exit line.call) line (with_exit lines) (with_exit (map system_v_line lines)) (same-lines lines)

same-block : (o : Option Block) (vars : Vars)
    → block_place (option_map system_v_block o) vars ≡ system_v_place (block_place o vars)
same-block None vars = refl
same-block (Some block) vars =
    ap (λ (lines : List Line). (let p : Place = record { left = lines; tried = 0; vars = vars } in p))
    (same-lines block.lines)

-- where a process begins
begins : (given : Script) (n : ℕ) (vars : Vars)
    → block_place (block_at (system_v given) n) vars ≡ system_v_place (block_place (block_at given n) vars)
begins given n vars =
    ap (λ (o : Option Block). block_place o vars) (slice_get-map system_v_block given.blocks (n - 1))
    ∙ same-block (block_at given n) vars

-- both scripts are begun at the same places
pub same-opening : (given : Script) → opening_places (system_v given) ≡ system_v_places (opening_places given)
same-opening given =
    ap (λ (p : Place). (let e : ℕ × Progress = (1, at_place p) in e ∷ [])) (begins given 1 [])

-- ---- one step

-- Of a call and its reply a place looks only at whether the line tries again, and at the number for its variable.

again-if : (b : Bool) (left : List Line) (tried : ℕ) (vars after : Vars) (line : Line)
    → (if b
    then record { left = map system_v_line (line ∷ left); tried = tried + 1; vars = vars }
    else record { left = map system_v_line left; tried = 0; vars = after })
    ≡ system_v_place
    (if b
    then record { left = line ∷ left; tried = tried + 1; vars = vars }
    else record { left = left; tried = 0; vars = after })
again-if true left tried vars after line = refl
again-if false left tried vars after line = refl

place-in : (lines : List Line) (tried : ℕ) (vars : Vars) (call : Call) (own : Option Reply)
    → place_after (record { left = map system_v_line lines; tried = tried; vars = vars }) call own
    ≡ system_v_place (place_after (record { left = lines; tried = tried; vars = vars }) call own)
place-in [] tried vars call None = refl
place-in [] tried vars call (Some reply) = refl
place-in (line ∷ lines) tried vars call None = refl
place-in (line ∷ lines) tried vars call (Some reply) =
    again-if (is_due_again call reply tried line.tries) lines tried vars (vars_after vars line.set reply) line

same-after : (place : Place) (call : Call) (own : Option Reply)
    → place_after (system_v_place place) call own ≡ system_v_place (place_after place call own)
same-after place call own = place-in place.left place.tried place.vars call own

moved-if : (b : Bool) (place : Place) (p q : Place) → p ≡ system_v_place q
    → (if b then record place { left = [] } else p) ≡ system_v_place (if b then record place { left = [] } else q)
moved-if true place p q h = refl
moved-if false place p q h = h

same-move : (place : Place) (call : Call) (own : Option Reply)
    → move_on (system_v_place place) call own ≡ system_v_place (move_on place call own)
same-move place call own = moved-if (is_killed call) place _ (place_after place call own) (same-after place call own)

-- the same line goes on alike after two calls that ask again alike, and give its variable the same number
pub steps-alike : (place : Place) (c d : Call) (r s : Reply) → asks_again c (Some r) ≡ asks_again d (Some s)
    → value_in (Some r) ≡ value_in (Some s) → place_after place c (Some r) ≡ place_after place d (Some s)
steps-alike place c d r s again value = by_lines place.left
  where
    by_lines : (lines : List Line) → after_reply place c r lines ≡ after_reply place d s lines
    by_lines [] = refl
    by_lines (line ∷ lines) = rw (again, value) refl

asks-alike : (call : Call) (reply : Reply) → asks_again (system_v_call call) (Some reply) ≡ asks_again call (Some reply)
asks-alike call (replies.Num n) = ap (λ (b : Bool). b && nat_lt n 1) (same-waitpid call)
asks-alike call reply = refl

same-answered : (place : Place) (o : Option Call) (reply : Reply)
    → answered (system_v_place place) (option_map system_v_call o) reply ≡ system_v_place (answered place o reply)
same-answered place None reply = refl
same-answered place (Some call) reply =
    steps-alike (system_v_place place) (system_v_call call) call reply reply (asks-alike call reply) refl
    ∙ same-after place call (Some reply)

woken-if : (b : Bool) (p : Progress) (q r : Place) → q ≡ system_v_place r
    → (if b then at_place q else system_v_progress p) ≡ system_v_progress (if b then at_place r else p)
woken-if true p q r h = ap at_place h
woken-if false p q r h = refl

same-wake : (reply : Reply) (p : Progress)
    → after_wake reply (system_v_progress p) ≡ system_v_progress (after_wake reply p)
same-wake reply p =
    woken-if p.parked p _ (answered p.place (due p.place) reply)
    (ap (λ (o : Option Call). answered (system_v_place p.place) o reply) (same-due p.place)
    ∙ same-answered p.place (due p.place) reply)

same-own : (place : Place) (call : Call) (own : Option Reply)
    → after_own (system_v_place place) call own ≡ system_v_progress (after_own place call own)
same-own place call None = refl
same-own place call (Some reply) = ap at_place (same-move place call (Some reply))

same-entry : (call : Call) (own : Option Reply) (p : Progress)
    → after_entry call own (system_v_progress p) ≡ system_v_progress (after_entry call own p)
same-entry (calls.Withdraw name) None p = refl
same-entry (calls.Withdraw name) (Some reply) p = same-wake reply p
same-entry call own p = same-own p.place call own

same-set : (vars : Vars) (lines : List Line) → child_vars_at vars (map system_v_line lines) ≡ child_vars_at vars lines
same-set vars [] = refl
same-set vars (line ∷ lines) = refl

same-fork : (given : Script) (places : Places) (parent : Place) (call : Call) (own : Option Reply)
    → after_fork (system_v given) (system_v_places places) (system_v_place parent) call own
    ≡ system_v_places (after_fork given places parent call own)
same-fork given places parent (calls.Fork block) (Some (replies.Num child)) =
    ap
    (λ (vars : Vars).
    put (system_v_places places) child (at_place (block_place (block_at (system_v given) block) vars)))
    (same-set parent.vars parent.left)
    ∙ (ap (λ (p : Place). put (system_v_places places) child (at_place p)) (begins given block (child_vars parent))
    ∙ put-each system_v_progress places child (at_place (block_place (block_at given block) (child_vars parent))))
same-fork given places parent (calls.Fork block) (Some reply) = refl
same-fork given places parent (calls.Fork block) None = refl
same-fork given places parent call own = refl

same-woken-at : (places : Places) (w : ℕ × Reply) (o : Option Progress)
    → woken_at (system_v_places places) w (option_map system_v_progress o) ≡ system_v_places (woken_at places w o)
same-woken-at places w None = refl
same-woken-at places w (Some p) =
    ap (put (system_v_places places) w.0) (same-wake w.1 p)
    ∙ put-each system_v_progress places w.0 (after_wake w.1 p)

same-woken : (ws : List (ℕ × Reply)) (places : Places)
    → fold after_woken (system_v_places places) ws ≡ system_v_places (fold after_woken places ws)
same-woken [] places = refl
same-woken (w ∷ ws) places =
    ap (λ (x : Places). fold after_woken x ws)
    (ap (woken_at (system_v_places places) w) (get-each system_v_progress places w.0)
    ∙ same-woken-at places w (get places w.0))
    ∙ same-woken ws (after_woken places w)

-- the places behind an entry
pub same-places : (given : Script) (places : Places) (e : Entry) (p : Progress)
    → places_after (system_v given) (system_v_places places) e (system_v_progress p)
    ≡ system_v_places (places_after given places e p)
same-places given places e p =
    ap
    (λ (x : Places).
    fold after_woken (after_fork (system_v given) x (system_v_place p.place) e.call e.outcome.own) e.outcome.woken)
    (ap (put (system_v_places places) e.pid) (same-entry e.call e.outcome.own p)
    ∙ put-each system_v_progress places e.pid (after_entry e.call e.outcome.own p))
    ∙ (ap (λ (x : Places). fold after_woken x e.outcome.woken)
    (same-fork given (put places e.pid (after_entry e.call e.outcome.own p)) p.place e.call e.outcome.own)
    ∙ same-woken e.outcome.woken
    (after_fork given (put places e.pid (after_entry e.call e.outcome.own p)) p.place e.call e.outcome.own))
