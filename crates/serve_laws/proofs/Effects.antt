-- What each call's effect leaves of the kernel's parts.
use Rattle.std.proofs.Common.{◌≡◌, ◌≢◌, ◌∙◌, ℕ, suc, arith, Bool, true, false, not, ◌&&◌, nat_eq, List, [], ◌∷◌, Option, Some, None, Result, Ok, Err, refl, sym, ap, subst}
use Rattle.std.specs.Prelude.{if◌then◌else◌, Contains}
use Rattle.std.specs.List.{list_any}
use Rattle.pico_base.specs.declared.call.Call.{Call}
use Rattle.pico_base.specs.declared.call.Call.TheVariants as calls
use Rattle.pico_base.specs.declared.call.SemStep.{SemStep}
use Rattle.pico_base.specs.declared.call.Home.TheVariants as homes
use Rattle.pico_base.specs.declared.numbers.Name.{Name}
use Rattle.pico_base.specs.declared.numbers.Name.TheVariants.{Proc, Msg, Sem}
use Rattle.pico_base.specs.declared.reply.Ending.{Ending}
use Rattle.pico_base.specs.declared.reply.EndedChild.{EndedChild}
use Rattle.pico_base.specs.declared.reply.Errno.{Errno}
use Rattle.pico_base.specs.declared.reply.Errno.TheVariants.{Einval, Esrch, Echild}
use Rattle.pico_base.specs.declared.reply.Reply.TheVariants as replies
use Rattle.pico_base.specs.declared.signal.SigArg.{SigArg}
use Rattle.pico_base.specs.declared.signal.SigArg.TheVariants.{Zero, Is, Bad}
use Rattle.pico_base.specs.Home.{home_of, home_of_process}
use Rattle.pico_base.specs.Signal.{at}
use Rattle.number_maps.specs.Maps.{get}
use Rattle.kernel_model.specs.Signals.{Signals, act_on, with_mask, raise}
use Rattle.kernel_model.specs.Queue.{send, receive, set_qbytes, stat}
use Rattle.kernel_model.specs.SemaphoreSet.{op, value_at, last_at, waiting_at, set_value, set_all, values_of}
use Rattle.kernel_model.specs.Row.{Alive, Waited, Found, NotYet, NoChild, ended_child, first_ended_child, matches, raise_by_other, wait, wait_result, Row}
use Rattle.kernel_model.specs.Kernel.{Kernel, Process, living_at, with_alive}
use Rattle.kernel_model.specs.Kernel as kernel
use Rattle.kernel_model.specs.Effect.{Effect, look_up, on_named, reply_with, refuse}
use Rattle.kernel_model.specs.ProcessCalls.{action_effect, kill_at, parent_after_wait, reap_child, signal_living, with_signals}
use Rattle.kernel_model.specs.QueueCalls.{change_queue, receive_effect, remove_queue, stat_effect}
use Rattle.kernel_model.specs.SetCalls.{all_values, change_set, operate, remove_set}
use Rattle.kernel_model.specs.Waiting.{may_wait}
use Rattle.kernel_model.specs.Transition.{effect}
use Rattle.kernel_model.specs.Valid.{IsValid}
use Rattle.node_model.specs.Bodies.{Body, Living, Ended, Gone, body_in, process_body, queue_body, set_body}
use Rattle.node_model.specs.Serving.{name_for, name_in}
use Rattle.node_model.specs.Carrying.{Done, act, done, in_body, is_own, is_own_home, is_served, on_body, on_row, reap, signal}
use Rattle.serve_laws.proofs.Follow.{Acts, a_queue, a_set, stays, at-queue, at-set, queue-changes, queue-receives, queue-removed, set-changes, set-looks, set-removed, same_living, process-changes, child-found}

-- ---- the caller's own calls

own_acts : (k : Kernel) (pid : ℕ) (a : Alive) (r : Result Signals Errno) → body_in k (Proc pid) ≡ Living a.row
    → Acts k (Proc pid) (in_body Living (act a.row r)) (action_effect k pid a r)
own_acts k pid a (Ok s) is =
    process-changes k pid (record a { row = record { signals = s; family = a.row.family } }) (replies.Num 0)
    (λ other. refl)
own_acts k pid a (Err e) is = stays k (Proc pid) (Living a.row) (replies.Fail e) (λ other. refl) is

first_by : (which : Option ℕ) (x : EndedChild) (es : List EndedChild) (e : EndedChild) (b : Bool)
    → (first_ended_child which es ≡ Some e → Contains es e)
    → (if b then Some x else first_ended_child which es) ≡ Some e → Contains (x ∷ es) e
first_by which x es e true later h = let same : x ≡ e = cc in (0, omega arith, same)
first_by which x es e false later h = let rest : Contains es e = later h in (suc rest.0, omega (arith, rest.1), rest.2)

first_there : (which : Option ℕ) (es : List EndedChild) (e : EndedChild) → first_ended_child which es ≡ Some e
    → Contains es e
first_there which [] e h = absurd (cc)
first_there which (x ∷ es) e h = first_by which x es e (matches which x.pid) (first_there which es e) h

-- the process isn't one of its own ended children
abbrev pub IsApart : ℕ → Alive → Type 0
IsApart pid a =
    (child : ℕ) (ending : Ending) → Contains a.row.family.ended (ended_child child ending) → pid ≢ child

-- in a valid kernel none is
pub valid-apart : (k : Kernel) (pid : ℕ) (a : Alive) → IsValid k → living_at k pid ≡ Some a → IsApart pid a
valid-apart k pid a valid lives child ending among same =
    let kept : get k.processes child ≡ Some (kernel.Ended ending) = (valid.alive pid a lives).ended child ending among
    in let living : get k.processes pid ≡ Some (kernel.Living a) = same_living (get k.processes pid) a lives
    in let both : Some (kernel.Living a) ≡ Some (kernel.Ended ending) =
    sym living ∙ ap (get k.processes) same ∙ kept
    in cc

-- what a wait finds is one of the ended children
pub found_there : (a : Alive) (which : Option ℕ) (child : ℕ) (ending : Ending)
    → wait a.row.family which ≡ Found child ending
    → Contains a.row.family.ended (ended_child child ending)
found_there a which child ending h =
    by (first_ended_child which a.row.family.ended) (list_any (matches which) a.row.family.living) refl h
  where
    by : (o : Option EndedChild) (b : Bool) → first_ended_child which a.row.family.ended ≡ o
        → wait_result o b ≡ Found child ending
        → Contains a.row.family.ended (ended_child child ending)
    by (Some e) b is found =
        let child_is : e.pid ≡ child = cc
        in let ending_is : e.ending ≡ ending = cc
        in let same : e ≡ ended_child child ending =
        ap (λ (p : ℕ). ended_child p e.ending) child_is ∙ ap (ended_child child) ending_is
        in subst (λ (x : EndedChild). Contains a.row.family.ended x) same (first_there which a.row.family.ended e is)
    by None true is found = absurd (cc)
    by None false is found = absurd (cc)

wait_acts : (k : Kernel) (pid : ℕ) (a : Alive) (which : Option ℕ) (w : Waited) → IsApart pid a
    → wait a.row.family which ≡ w → body_in k (Proc pid) ≡ Living a.row
    → Acts k (Proc pid) (in_body Living (reap a.row w)) (reap_child k pid a w)
wait_acts k pid a which (Found child ending) apart is body =
    child-found k pid child ending (parent_after_wait a child)
    (apart child ending (found_there a which child ending is))
wait_acts k pid a which NotYet apart is body =
    stays k (Proc pid) (Living a.row) (replies.Num 0) (λ other. refl) body
wait_acts k pid a which NoChild apart is body =
    stays k (Proc pid) (Living a.row) (replies.Fail Echild) (λ other. refl) body

-- ---- kill

same_number : (n m : ℕ) → nat_eq n m ≡ true → n ≡ m
same_number n m h = grind arith

self : (n : ℕ) → nat_eq n n ≡ true
self n = grind arith

other_way : (n m : ℕ) → nat_eq n m ≡ false → nat_eq m n ≡ false
other_way n m h = grind arith

-- a signal to oneself
kill_self : (k : Kernel) (pid : ℕ) (a : Alive) (sig : SigArg) → body_in k (Proc pid) ≡ Living a.row
    → Acts k (Proc pid) (in_body Living (signal a.row sig)) (signal_living k pid pid a sig)
kill_self k pid a Zero is = stays k (Proc pid) (Living a.row) (replies.Num 0) (λ other. refl) is
kill_self k pid a Bad is = stays k (Proc pid) (Living a.row) (replies.Fail Einval) (λ other. refl) is
kill_self k pid a (Is g) is =
    subst (λ (b : Bool). Acts k (Proc pid) (in_body Living (signal a.row (Is g)))
    (reply_with (if b then with_signals k pid a (raise a.row.signals g) else with_alive k pid (raise_by_other a g)) 0))
    (sym (self pid))
    (process-changes k pid (record a { row = record { signals = raise a.row.signals g; family = a.row.family } })
    (replies.Num 0) (λ other. refl))

-- a signal to another process
kill_living : (k : Kernel) (pid target : ℕ) (b : Alive) (sig : SigArg) → nat_eq pid target ≡ false
    → body_in k (Proc target) ≡ Living b.row
    → Acts k (Proc target) (in_body Living (signal b.row sig)) (signal_living k pid target b sig)
kill_living k pid target b Zero apart is = stays k (Proc target) (Living b.row) (replies.Num 0) (λ other. refl) is
kill_living k pid target b Bad apart is = stays k (Proc target) (Living b.row) (replies.Fail Einval) (λ other. refl) is
kill_living k pid target b (Is g) apart is =
    subst (λ (t : Bool). Acts k (Proc target) (in_body Living (signal b.row (Is g)))
    (reply_with (if t then with_signals k target b (raise b.row.signals g) else with_alive k target
    (raise_by_other b g)) 0)) (sym apart)
    (process-changes k target (raise_by_other b g) (replies.Num 0) (λ other. refl))

kill_other : (k : Kernel) (pid target : ℕ) (sig : SigArg) (call : Call) → nat_eq pid target ≡ false
    → is_own pid call ≡ false
    → ((row : Row) → on_body (Proc target) (Living row) pid call ≡ in_body Living (signal row sig))
    → (o : Option Process) → get k.processes target ≡ o
    → Acts k (Proc target) (on_body (Proc target) (process_body o) pid call) (kill_at k pid target sig o)
kill_other k pid target sig call apart own rows None there =
    stays k (Proc target) Gone (replies.Fail Esrch) (λ other. refl) (ap process_body there)
kill_other k pid target sig call apart own rows (Some kernel.Gone) there =
    stays k (Proc target) Gone (replies.Fail Esrch) (λ other. refl) (ap process_body there)
kill_other k pid target sig call apart own rows (Some (kernel.Ended ending)) there =
    subst (λ (b : Bool). Acts k (Proc target) (done (Ended ending) (if b then replies.Fail Esrch else replies.Num 0))
    (reply_with k 0)) (sym own)
    (stays k (Proc target) (Ended ending) (replies.Num 0) (λ other. refl) (ap process_body there))
kill_other k pid target sig call apart own rows (Some (kernel.Living b)) there =
    subst (λ (d : Done Body). Acts k (Proc target) d (signal_living k pid target b sig)) (sym (rows b.row))
    (kill_living k pid target b sig apart (ap process_body there))

-- ---- all calls

-- the effect is what the call on this name's body does, seen in the kernel
unfoldable pub Serves : Kernel → ℕ → Call → Name → Effect → Type 0
Serves k pid call name e = Acts k name (on_body name (body_in k name) pid call) e

some_same : {A : Type 0} (x y : A) → Some x ≡ Some y → x ≡ y
some_same x y h = cc

conclude : (k : Kernel) (pid : ℕ) (call : Call) (n m : Name) (d e : Effect) → Some n ≡ Some m → Some d ≡ Some e
    → Serves k pid call n d → Serves k pid call m e
conclude k pid call n m d e named effects serves =
    subst (λ (x : Effect). Serves k pid call m x) (some_same d e effects)
    (subst (λ (x : Name). Serves k pid call x d) (some_same n m named) serves)

-- an own call of a living process
own : (k : Kernel) (pid : ℕ) (a : Alive) (call : Call) (e : Effect) → body_in k (Proc pid) ≡ Living a.row
    → Acts k (Proc pid) (in_body Living (on_row a.row pid call)) e → Serves k pid call (Proc pid) e
unfolding Serves
own k pid a call e is acts = subst (λ (b : Body). Acts k (Proc pid) (on_body (Proc pid) b pid call) e) (sym is) acts

module _ (k : Kernel) (pid n : ℕ) (a : Alive) where
  -- the caller may make calls of its own
  pub record MakesOwnCalls : Type 0 where
    pub lives : living_at k pid ≡ Some a
    pub apart : IsApart pid a

  here : living_at k pid ≡ Some a → body_in k (Proc pid) ≡ Living a.row
  here lives = ap process_body (same_living (get k.processes pid) a lives)

  kill_named : (target : ℕ) (sig : SigArg) (name : Name) (e : Effect) (b : Bool) → nat_eq target pid ≡ b
      → home_of pid (calls.Kill target sig) ≡ home_of_process pid target
      → (is_own pid (calls.Kill target sig) ≡ true → MakesOwnCalls)
      → name_in pid (if b then homes.Own else homes.At (Proc target)) ≡ Some name
      → Some (kill_at k pid target sig (get k.processes target)) ≡ Some e → Serves k pid (calls.Kill target sig) name e
  unfolding Serves
  kill_named target sig name e true same home makes named eff =
      let is : target ≡ pid = same_number target pid same
      in let maker : MakesOwnCalls =
      makes (ap is_own_home (home ∙ ap (λ (t : Bool). if t then homes.Own else homes.At (Proc target)) same))
      in let alive : living_at k pid ≡ Some a = maker.lives
      in conclude k pid (calls.Kill target sig) (Proc pid) name
      (kill_at k pid target sig (get k.processes target)) e named eff
      (own k pid a (calls.Kill target sig) (kill_at k pid target sig (get k.processes target)) (here alive)
      (subst (λ (t : ℕ). Acts k (Proc pid) (in_body Living (signal a.row sig))
      (kill_at k pid t sig (get k.processes t))) (sym is)
      (subst (λ (o : Option Process). Acts k (Proc pid) (in_body Living (signal a.row sig)) (kill_at k pid pid sig o))
      (sym (same_living (get k.processes pid) a alive)) (kill_self k pid a sig (here alive)))))
  kill_named target sig name e false apart home makes named eff =
      conclude k pid (calls.Kill target sig) (Proc target) name
      (kill_at k pid target sig (get k.processes target)) e named eff
      (kill_other k pid target sig (calls.Kill target sig) (other_way target pid apart)
      (ap is_own_home (home ∙ ap (λ (t : Bool). if t then homes.Own else homes.At (Proc target)) apart))
      (λ row. refl) (get k.processes target) refl)

  operates : (id : ℕ) (steps : List SemStep) (name : Name) (e : Effect) → list_any may_wait steps ≡ false
      → Some (Sem id) ≡ Some name
      → operate k pid id steps ≡ Some e → Serves k pid (calls.SemOp id steps) name e
  unfolding Serves
  operates id steps name e ready named eff =
      let found : Effect = on_named k (get k.sets id) (λ s. change_set k id (op s pid steps))
      in let is : operate k pid id steps ≡ Some found = ap (λ (b : Bool). if b then None else Some found) ready
      in conclude k pid (calls.SemOp id steps) (Sem id) name found e named (sym is ∙ eff)
      (at-set k id pid (calls.SemOp id steps) (λ s. change_set k id (op s pid steps))
      (λ s there. set-changes k id s (op s pid steps) there) (get k.sets id) refl)

  own_lives : {b : Bool} → (b ≡ true → MakesOwnCalls) → b ≡ true → living_at k pid ≡ Some a
  own_lives makes own = let maker : MakesOwnCalls = makes own in maker.lives

  own_apart : {b : Bool} → (b ≡ true → MakesOwnCalls) → b ≡ true → IsApart pid a
  own_apart makes own = let maker : MakesOwnCalls = makes own in maker.apart

  -- the caller has to live for its own calls alone
  pub effect-serves : (call : Call) (name : Name) (e : Effect) → is_served call ≡ true
      → (is_own pid call ≡ true → MakesOwnCalls) → name_for pid call ≡ Some name
      → effect k pid a call n ≡ Some e → Serves k pid call name e
  unfolding Serves
  effect-serves (calls.Fork block) name e s l named eff = absurd (cc)
  effect-serves (calls.Exit status) name e s l named eff = absurd (cc)
  effect-serves (calls.Killed sig) name e s l named eff = absurd (cc)
  effect-serves (calls.MsgGet key create excl) name e s l named eff = absurd (cc)
  effect-serves (calls.SemGet key count create excl) name e s l named eff = absurd (cc)
  effect-serves calls.GetPid name e s l named eff =
      conclude k pid calls.GetPid (Proc pid) name _ e named eff
      (own k pid a calls.GetPid (reply_with k pid) (here (own_lives l refl))
      (stays k (Proc pid) (Living a.row) (replies.Num pid) (λ other. refl) (here (own_lives l refl))))
  effect-serves (calls.Kill target Bad) name e s l named eff =
      conclude k pid (calls.Kill target Bad) (Proc pid) name _ e named eff
      (own k pid a (calls.Kill target Bad) (refuse k Einval) (here (own_lives l refl))
      (stays k (Proc pid) (Living a.row) (replies.Fail Einval) (λ other. refl) (here (own_lives l refl))))
  effect-serves (calls.Kill target Zero) name e s l named eff =
      kill_named target Zero name e (nat_eq target pid) refl refl l named eff
  effect-serves (calls.Kill target (Is g)) name e s l named eff =
      kill_named target (Is g) name e (nat_eq target pid) refl refl l named eff
  effect-serves (calls.SigAction sig action) name e s l named eff =
      conclude k pid (calls.SigAction sig action) (Proc pid) name _ e named eff
      (own k pid a (calls.SigAction sig action) (action_effect k pid a (act_on a.row.signals sig action))
      (here (own_lives l refl))
      (own_acts k pid a (act_on a.row.signals sig action) (here (own_lives l refl))))
  effect-serves (calls.SigProcMask how set) name e s l named eff =
      conclude k pid (calls.SigProcMask how set) (Proc pid) name _ e named eff
      (own k pid a (calls.SigProcMask how set)
      (record {
        kernel = with_signals k pid a (with_mask a.row.signals how set);
        reply =
            replies.Bits a.row.signals.mask;
      }) (here (own_lives l refl))
      (process-changes k pid
      (record a { row = record { signals = with_mask a.row.signals how set; family = a.row.family } })
      (replies.Bits a.row.signals.mask) (λ other. refl)))
  effect-serves calls.SigPending name e s l named eff =
      conclude k pid calls.SigPending (Proc pid) name _ e named eff
      (own k pid a calls.SigPending (record { kernel = k; reply = replies.Bits a.row.signals.pending })
      (here (own_lives l refl))
      (stays k (Proc pid) (Living a.row) (replies.Bits a.row.signals.pending) (λ other. refl)
      (here (own_lives l refl))))
  effect-serves (calls.Handled sig) name e s l named eff =
      conclude k pid (calls.Handled sig) (Proc pid) name _ e named eff
      (own k pid a (calls.Handled sig) (reply_with k (at a.row.signals.handled sig)) (here (own_lives l refl))
      (stays k (Proc pid) (Living a.row) (replies.Num (at a.row.signals.handled sig)) (λ other. refl)
      (here (own_lives l refl))))
  effect-serves (calls.WaitPid child true) name e s l named eff =
      conclude k pid (calls.WaitPid child true) (Proc pid) name _ e named eff
      (own k pid a (calls.WaitPid child true) (reap_child k pid a (wait a.row.family child)) (here (own_lives l refl))
      (wait_acts k pid a child (wait a.row.family child) (own_apart l refl) refl (here (own_lives l refl))))
  effect-serves (calls.WaitPid child false) name e s l named eff = absurd (cc)
  effect-serves (calls.MsgSnd id class text true) name e s l named eff =
      conclude k pid (calls.MsgSnd id class text true) (Msg id) name _ e named eff
      (at-queue k id pid (calls.MsgSnd id class text true) (λ q. change_queue k id (send q pid class text))
      (λ q there. queue-changes k id q (send q pid class text) there) (get k.queues id) refl)
  effect-serves (calls.MsgSnd id class text false) name e s l named eff = absurd (cc)
  effect-serves (calls.MsgRcv id class size noerror true) name e s l named eff =
      conclude k pid (calls.MsgRcv id class size noerror true) (Msg id) name _ e named eff
      (at-queue k id pid (calls.MsgRcv id class size noerror true)
      (λ q. receive_effect k id (receive q pid class size noerror))
      (λ q there. queue-receives k id q (receive q pid class size noerror) there) (get k.queues id) refl)
  effect-serves (calls.MsgRcv id class size noerror false) name e s l named eff = absurd (cc)
  effect-serves (calls.MsgStat id) name e s l named eff =
      conclude k pid (calls.MsgStat id) (Msg id) name _ e named eff
      (at-queue k id pid (calls.MsgStat id) (stat_effect k)
      (λ q there. stays k (Msg id) (a_queue q) (stat q) (λ other. refl) (ap queue_body there)) (get k.queues id) refl)
  effect-serves (calls.MsgSet id qbytes) name e s l named eff =
      conclude k pid (calls.MsgSet id qbytes) (Msg id) name _ e named eff
      (at-queue k id pid (calls.MsgSet id qbytes) (λ q. change_queue k id (set_qbytes q qbytes))
      (λ q there. queue-changes k id q (set_qbytes q qbytes) there) (get k.queues id) refl)
  effect-serves (calls.MsgRmid id) name e s l named eff =
      conclude k pid (calls.MsgRmid id) (Msg id) name _ e named eff
      (at-queue k id pid (calls.MsgRmid id) (λ _. remove_queue k id) (λ q there. queue-removed k id)
      (get k.queues id) refl)
  effect-serves (calls.SemOp id steps) name e s l named eff =
      operates id steps name e (ready (list_any may_wait steps) s) named eff
    where
      ready : (b : Bool) → (true && not b) ≡ true → b ≡ false
      ready true h = absurd (cc)
      ready false h = refl
  effect-serves (calls.SemGetVal id num) name e s l named eff =
      conclude k pid (calls.SemGetVal id num) (Sem id) name _ e named eff
      (at-set k id pid (calls.SemGetVal id num) (λ s. look_up k (value_at s num))
      (λ s there. set-looks k id s (value_at s num) there) (get k.sets id) refl)
  effect-serves (calls.SemGetPid id num) name e s l named eff =
      conclude k pid (calls.SemGetPid id num) (Sem id) name _ e named eff
      (at-set k id pid (calls.SemGetPid id num) (λ s. look_up k (last_at s num))
      (λ s there. set-looks k id s (last_at s num) there) (get k.sets id) refl)
  effect-serves (calls.SemGetNcnt id num) name e s l named eff =
      conclude k pid (calls.SemGetNcnt id num) (Sem id) name _ e named eff
      (at-set k id pid (calls.SemGetNcnt id num) (λ s. look_up k (waiting_at s num))
      (λ s there. set-looks k id s (waiting_at s num) there) (get k.sets id) refl)
  effect-serves (calls.SemGetZcnt id num) name e s l named eff =
      conclude k pid (calls.SemGetZcnt id num) (Sem id) name _ e named eff
      (at-set k id pid (calls.SemGetZcnt id num) (λ s. look_up k (waiting_at s num))
      (λ s there. set-looks k id s (waiting_at s num) there) (get k.sets id) refl)
  effect-serves (calls.SemSetVal id num value) name e s l named eff =
      conclude k pid (calls.SemSetVal id num value) (Sem id) name _ e named eff
      (at-set k id pid (calls.SemSetVal id num value) (λ s. change_set k id (set_value s num value))
      (λ s there. set-changes k id s (set_value s num value) there)
      (get k.sets id) refl)
  effect-serves (calls.SemGetAll id) name e s l named eff =
      conclude k pid (calls.SemGetAll id) (Sem id) name _ e named eff
      (at-set k id pid (calls.SemGetAll id) (all_values k)
      (λ s there. stays k (Sem id) (a_set s) (replies.All (values_of s.semaphores)) (λ other. refl) (ap set_body there))
      (get k.sets id) refl)
  effect-serves (calls.SemSetAll id values) name e s l named eff =
      conclude k pid (calls.SemSetAll id values) (Sem id) name _ e named eff
      (at-set k id pid (calls.SemSetAll id values) (λ s. change_set k id (set_all s values))
      (λ s there. set-changes k id s (set_all s values) there)
      (get k.sets id) refl)
  effect-serves (calls.SemRmid id) name e s l named eff =
      conclude k pid (calls.SemRmid id) (Sem id) name _ e named eff
      (at-set k id pid (calls.SemRmid id) (λ _. remove_set k id) (λ s there. set-removed k id) (get k.sets id) refl)
  effect-serves (calls.Withdraw place) name e s l named eff = absurd (cc)
