-- What each call's effect leaves of the one name that the kernel has, where callers wait.
use Rattle.std.proofs.Common.{◌≡◌, ◌≢◌, ◌∙◌, ℕ, Bool, true, false, nat_eq, [], Option, Some, None, Ok, Err, refl, sym, ap, subst, arith, replicate}
use Rattle.std.specs.Prelude.{if◌then◌else◌, Contains}
use Rattle.pico_base.specs.declared.call.Call.{Call}
use Rattle.pico_base.specs.declared.call.Call.TheVariants as calls
use Rattle.pico_base.specs.declared.call.Home.TheVariants as homes
use Rattle.pico_base.specs.declared.numbers.Name.{Name}
use Rattle.pico_base.specs.declared.numbers.Name.TheVariants.{Proc, Msg, Sem}
use Rattle.pico_base.specs.declared.reply.Ending.{Ending}
use Rattle.pico_base.specs.declared.reply.Errno.TheVariants.{Einval, Esrch}
use Rattle.pico_base.specs.declared.reply.Reply.TheVariants as replies
use Rattle.pico_base.specs.declared.signal.SigArg.{SigArg}
use Rattle.pico_base.specs.declared.signal.SigArg.TheVariants.{Zero, Is, Bad}
use Rattle.pico_base.specs.Home.{home_of, home_of_process}
use Rattle.pico_base.specs.Signal.{at}
use Rattle.number_maps.specs.Maps.{get}
use Rattle.number_maps.proofs.LookUps.{get-first}
use Rattle.number_maps.proofs.Order.{same-from-nat_eq}
use Rattle.kernel_model.specs.Queue.{Queue}
use Rattle.kernel_model.specs.Row.{Row, wait, ended_child}
use Rattle.kernel_model.specs.SemaphoreSet.{SemaphoreSet, is_bad_count, set_of, new_semaphore}
use Rattle.kernel_model.specs.Signals.{act_on, with_mask}
use Rattle.waiting_model.specs.declared.callers.Waiting.{Waiting}
use Rattle.waiting_model.specs.Linear.{at_once}
use Rattle.waiting_model.specs.Waiters.{Awaited, wakes_at_removal}
use Rattle.waiting_model.specs.Marks.{Alive}
use Rattle.waiting_model.specs.Kernel.{Kernel, Process, wake_all, wake_one, with_alive}
use Rattle.waiting_model.specs.Kernel as kernel
use Rattle.waiting_model.specs.Effect.{Effect, on_named, refuse, reply_with}
use Rattle.waiting_model.specs.ProcessCalls.{kill, kill_at, signal_living}
use Rattle.waiting_model.specs.QueueCalls.{queue_effect, remove_queue}
use Rattle.waiting_model.specs.SetCalls.{new_set_of, remove_set, set_effect}
use Rattle.waiting_model.specs.Queue.{carry_out_on_queue}
use Rattle.waiting_model.specs.SemaphoreSet.{carry_out_on_set}
use Rattle.waiting_model.specs.Transition.{effect_by}
use Rattle.node_model.specs.Awaiting.{Applied, applied, at_once_on, in_whole, on_object, on_whole, removed}
use Rattle.node_model.specs.Bodies.{Body, Living, Ended, Gone, AQueue, ASet, Removed, fits_name, free_to_act, kernel_with, whole_process}
use Rattle.node_model.specs.Carrying.{act, is_own, is_own_home, is_removal, is_served, signal}
use Rattle.node_model.specs.Serving.{actor, name_for, name_in}
use Rattle.serve_laws.specs.Served.{MakesOwn}
use Rattle.serve_laws.proofs.Left.{Leaves, stays, lives-there, changes-signals, acts, reaps, raises-own, raises-other, queue-left, set-left, queue-gone, set-gone}

-- ---- all calls

-- where the same is there, its content is the same
pub some-same : {A : Type 0} (x y : A) → Some x ≡ Some y → x ≡ y
some-same x y h = cc

differ : {B : Type 0} → false ≡ true → B
differ h = absurd (cc)

flip : (n m : ℕ) → nat_eq n m ≡ false → nat_eq m n ≡ false
flip n m h = grind arith

module _ (caller ticket pid : ℕ) where
  abbrev who : Call → Waiting
  who call = record { caller = caller; ticket = ticket; pid = pid; call = call }

  abbrev Serves : Call → Name → Body → Type 0
  Serves call name body =
      (e : Effect) → effect_by (kernel_with name body) (who call) (actor body) call 0 ≡ Some e
      → Leaves name (on_whole name body (who call)) e

  by-some : (name : Name) (d : Applied Body) (x : Effect) → Leaves name d x → (e : Effect) → Some x ≡ Some e
      → Leaves name d e
  by-some name d x leaves e is = subst (Leaves name d) (some-same x e is) leaves

  abbrev IsOthers : Row → Type 0
  IsOthers row = (child : ℕ) (ending : Ending) → Contains row.family.ended (ended_child child ending) → pid ≢ child

  -- an own call, of a process that lives
  own-serves : (call : Call) → ((row : Row) → IsOthers row → Serves call (Proc pid) (Living row)) → (name : Name)
      (body : Body) → Some (Proc pid) ≡ Some name → MakesOwn pid body → Serves call name body
  own-serves call serves name body named makes =
      subst (λ (n : Name). Serves call n body) (some-same (Proc pid) name named)
      (subst (Serves call (Proc pid)) (sym makes.lives) (serves makes.row makes.apart))

  -- a call on a queue, and on a set
  queue-serves : (call : Call) (f : Kernel → ℕ → Awaited Queue → Effect) (id : ℕ)
      → ((k : Kernel) (a : Alive) → effect_by k (who call) a call 0 ≡ Some (on_named k (get k.queues id) (f k id)))
      → ((q : Awaited Queue) → Leaves (Msg id) (on_whole (Msg id) (AQueue q) (who call))
      (f (kernel_with (Msg id) (AQueue q)) id q))
      → (name : Name) (body : Body) → Some (Msg id) ≡ Some name → fits_name name body ≡ true → Serves call name body
  queue-serves call f id is leaves name body named fits =
      subst (λ (n : Name). Serves call n body) (some-same (Msg id) name named)
      (by body (subst (λ (n : Name). fits_name n body ≡ true) (sym (some-same (Msg id) name named)) fits))
    where
      by : (b : Body) → fits_name (Msg id) b ≡ true → Serves call (Msg id) b
      by (AQueue q) h =
          let k : Kernel = kernel_with (Msg id) (AQueue q)
          in λ e gives.
          by-some (Msg id) (on_whole (Msg id) (AQueue q) (who call)) (f k id q) (leaves q) e
          (sym (is k (actor (AQueue q))
          ∙ ap (λ (o : Option (Awaited Queue)). Some (on_named k o (f k id))) (get-first (id, q) [] id refl)) ∙ gives)
      by Removed h =
          let k : Kernel = kernel_with (Msg id) Removed
          in λ e gives.
          by-some (Msg id) (applied Removed (replies.Fail Einval)) (refuse k Einval)
          (stays k (Msg id) Removed (replies.Fail Einval) (λ child ending same. absurd (cc)) refl) e
          (sym (is k (actor Removed)) ∙ gives)
      by (Living row) h = differ h
      by (Ended x) h = differ h
      by Gone h = differ h
      by (ASet s) h = differ h

  set-serves : (call : Call) (f : Kernel → ℕ → Awaited SemaphoreSet → Effect) (id : ℕ)
      → ((k : Kernel) (a : Alive) → effect_by k (who call) a call 0 ≡ Some (on_named k (get k.sets id) (f k id)))
      → ((s : Awaited SemaphoreSet) → Leaves (Sem id) (on_whole (Sem id) (ASet s) (who call))
      (f (kernel_with (Sem id) (ASet s)) id s))
      → (name : Name) (body : Body) → Some (Sem id) ≡ Some name → fits_name name body ≡ true → Serves call name body
  set-serves call f id is leaves name body named fits =
      subst (λ (n : Name). Serves call n body) (some-same (Sem id) name named)
      (by body (subst (λ (n : Name). fits_name n body ≡ true) (sym (some-same (Sem id) name named)) fits))
    where
      by : (b : Body) → fits_name (Sem id) b ≡ true → Serves call (Sem id) b
      by (ASet s) h =
          let k : Kernel = kernel_with (Sem id) (ASet s)
          in λ e gives.
          by-some (Sem id) (on_whole (Sem id) (ASet s) (who call)) (f k id s) (leaves s) e
          (sym (is k (actor (ASet s))
          ∙ ap (λ (o : Option (Awaited SemaphoreSet)). Some (on_named k o (f k id))) (get-first (id, s) [] id refl))
          ∙ gives)
      by Removed h =
          let k : Kernel = kernel_with (Sem id) Removed
          in λ e gives.
          by-some (Sem id) (applied Removed (replies.Fail Einval)) (refuse k Einval)
          (stays k (Sem id) Removed (replies.Fail Einval) (λ child ending same. absurd (cc)) refl) e
          (sym (is k (actor Removed)) ∙ gives)
      by (Living row) h = differ h
      by (Ended x) h = differ h
      by Gone h = differ h
      by (AQueue q) h = differ h

  on-queue : (call : Call) (id : ℕ)
      → ((k : Kernel) (a : Alive) → effect_by k (who call) a call 0
      ≡ Some (on_named k (get k.queues id) (λ q. queue_effect k id (carry_out_on_queue q (who call)))))
      → is_removal call ≡ false → (name : Name) (body : Body) → Some (Msg id) ≡ Some name
      → fits_name name body ≡ true → Serves call name body
  on-queue call id is keeps =
      queue-serves call (λ k n q. queue_effect k n (carry_out_on_queue q (who call))) id is
      (λ q. subst (λ (b : Bool). Leaves (Msg id)
      (if b then removed (wakes_at_removal q) else on_object AQueue (carry_out_on_queue q (who call)))
      (queue_effect (kernel_with (Msg id) (AQueue q)) id (carry_out_on_queue q (who call)))) (sym keeps)
      (queue-left (kernel_with (Msg id) (AQueue q)) id (carry_out_on_queue q (who call)) refl))

  on-set : (call : Call) (id : ℕ)
      → ((k : Kernel) (a : Alive) → effect_by k (who call) a call 0
      ≡ Some (on_named k (get k.sets id) (λ s. set_effect k id (carry_out_on_set s (who call)))))
      → is_removal call ≡ false → (name : Name) (body : Body) → Some (Sem id) ≡ Some name
      → fits_name name body ≡ true → Serves call name body
  on-set call id is keeps =
      set-serves call (λ k n s. set_effect k n (carry_out_on_set s (who call))) id is
      (λ s. subst (λ (b : Bool). Leaves (Sem id)
      (if b then removed (wakes_at_removal s) else on_object ASet (carry_out_on_set s (who call)))
      (set_effect (kernel_with (Sem id) (ASet s)) id (carry_out_on_set s (who call)))) (sym keeps)
      (set-left (kernel_with (Sem id) (ASet s)) id (carry_out_on_set s (who call)) refl))

  -- a signal to another process, or to one that has ended
  kills-other : (target : ℕ) (sig : SigArg)
      → ((k : Kernel) → kill k pid target sig ≡ kill_at k pid target sig (get k.processes target))
      → nat_eq pid target ≡ false → is_own pid (calls.Kill target sig) ≡ false → (body : Body)
      → fits_name (Proc target) body ≡ true → Serves (calls.Kill target sig) (Proc target) body
  kills-other target sig is apart own (Living row) fits =
      let k : Kernel = kernel_with (Proc target) (Living row)
      in let a : Alive = free_to_act row
      in λ e gives.
      by-some (Proc target) (in_whole Living (at_once_on (signal row sig))) (signal_living k pid target a sig)
      (raises-other target row pid sig apart) e
      (ap Some (sym (is k ∙ ap (kill_at k pid target sig) (get-first (target, kernel.Living a) [] target refl)))
      ∙ gives)
  kills-other target sig is apart own (Ended ending) fits =
      let k : Kernel = kernel_with (Proc target) (Ended ending)
      in let there = get-first (target, kernel.Ended ending) [] target refl
      in λ e gives.
      subst (λ (b : Bool). Leaves (Proc target)
      (applied (Ended ending) (if b then replies.Fail Esrch else replies.Num 0)) e) (sym own)
      (by-some (Proc target) (applied (Ended ending) (replies.Num 0)) (reply_with k 0)
      (stays k (Proc target) (Ended ending) (replies.Num 0) (λ child other same. absurd (cc)) (ap whole_process there))
      e
      (ap Some (sym (is k ∙ ap (kill_at k pid target sig) there)) ∙ gives))
  kills-other target sig is apart own Gone fits =
      let k : Kernel = kernel_with (Proc target) Gone
      in let there = get-first (target, kernel.Gone) [] target refl
      in λ e gives.
      by-some (Proc target) (applied Gone (replies.Fail Esrch)) (refuse k Esrch)
      (stays k (Proc target) Gone (replies.Fail Esrch) (λ child other same. absurd (cc)) (ap whole_process there)) e
      (ap Some (sym (is k ∙ ap (kill_at k pid target sig) there)) ∙ gives)
  kills-other target sig is apart own (AQueue q) fits = differ fits
  kills-other target sig is apart own (ASet s) fits = differ fits
  kills-other target sig is apart own Removed fits = differ fits

  get-by : (row : Row) (e : Effect) (b : Bool) (count : ℕ)
      → new_set_of (kernel_with (Proc pid) (Living row)) [] 0
      (if b then Err Einval else Ok (set_of (replicate count new_semaphore))) ≡ Some e
      → Leaves (Proc pid) (applied (Living row) (replies.Fail Einval)) e
  get-by row e true count h =
      let k : Kernel = kernel_with (Proc pid) (Living row)
      in by-some (Proc pid) (applied (Living row) (replies.Fail Einval)) (refuse k Einval)
      (stays k (Proc pid) (Living row) (replies.Fail Einval) (λ child other same. absurd (cc)) (lives-there pid row)) e
      h
  get-by row e false count h = absurd (cc)

  -- a new set has no number here, and a bad number of semaphores is refused
  get-serves : (count : ℕ) (create excl : Bool) (row : Row)
      → Serves (calls.SemGet None count create excl) (Proc pid) (Living row)
  get-serves count create excl row e gives = get-by row e (is_bad_count count) count gives

  -- a signal, to oneself or to another process
  kill-serves : (target : ℕ) (sig : SigArg) (b : Bool) → nat_eq target pid ≡ b
      → home_of pid (calls.Kill target sig) ≡ home_of_process pid target
      → ((k : Kernel) → kill k pid target sig ≡ kill_at k pid target sig (get k.processes target))
      → (name : Name) (body : Body)
      → name_in pid (if b then homes.Own else homes.At (Proc target)) ≡ Some name
      → fits_name name body ≡ true → (is_own pid (calls.Kill target sig) ≡ true → MakesOwn pid body)
      → Serves (calls.Kill target sig) name body
  kill-serves target sig true same home is name body named fits makes =
      let at_own : target ≡ pid = same-from-nat_eq target pid same
      in let call : Call = calls.Kill target sig
      in own-serves call
      (λ row others e gives.
      let k : Kernel = kernel_with (Proc pid) (Living row)
      in let a : Alive = free_to_act row
      in let does : kill k pid target sig ≡ signal_living k pid pid a sig =
      is k ∙ ap (λ (t : ℕ). kill_at k pid t sig (get k.processes t)) at_own
      ∙ ap (kill_at k pid pid sig) (get-first (pid, kernel.Living a) [] pid refl)
      in by-some (Proc pid) (on_whole (Proc pid) (Living row) (who call)) (signal_living k pid pid a sig)
      (raises-own pid row sig) e (ap Some (sym does) ∙ gives))
      name body named
      (makes (ap is_own_home (home ∙ ap (λ (t : Bool). if t then homes.Own else homes.At (Proc target)) same)))
  kill-serves target sig false apart home is name body named fits makes =
      let own : is_own pid (calls.Kill target sig) ≡ false =
      ap is_own_home (home ∙ ap (λ (t : Bool). if t then homes.Own else homes.At (Proc target)) apart)
      in subst (λ (n : Name). Serves (calls.Kill target sig) n body) (some-same (Proc target) name named)
      (kills-other target sig is (flip target pid apart) own body
      (subst (λ (n : Name). fits_name n body ≡ true) (sym (some-same (Proc target) name named)) fits))

  -- a call of its own, or on a queue or a set; no other has an effect and a name
  pub effect-leaves : (call : Call) (name : Name) (body : Body) → name_for pid call ≡ Some name
      → fits_name name body ≡ true → (is_own pid call ≡ true → MakesOwn pid body) → Serves call name body
  effect-leaves (calls.Exit status) name body named fits makes = absurd (cc)
  effect-leaves (calls.Killed sig) name body named fits makes = absurd (cc)
  effect-leaves (calls.MsgGet (Some key) create excl) name body named fits makes = absurd (cc)
  effect-leaves (calls.SemGet (Some key) count create excl) name body named fits makes = absurd (cc)
  effect-leaves (calls.Withdraw place) name body named fits makes = λ e gives. absurd (cc)
  effect-leaves (calls.Fork block) name body named fits makes =
      own-serves (calls.Fork block) (λ row others e gives. absurd (cc)) name body named (makes refl)
  effect-leaves (calls.MsgGet None create excl) name body named fits makes =
      own-serves (calls.MsgGet None create excl) (λ row others e gives. absurd (cc)) name body named (makes refl)
  effect-leaves (calls.SemGet None count create excl) name body named fits makes =
      own-serves (calls.SemGet None count create excl) (λ row others. get-serves count create excl row) name body named
      (makes refl)
  effect-leaves calls.GetPid name body named fits makes =
      own-serves calls.GetPid
      (λ row others. by-some (Proc pid) _ _
      (stays (kernel_with (Proc pid) (Living row)) (Proc pid) (Living row) (replies.Num pid)
      (λ child ending is. absurd (cc)) (lives-there pid row))) name body named (makes refl)
  effect-leaves (calls.Kill target Bad) name body named fits makes =
      own-serves (calls.Kill target Bad)
      (λ row others. by-some (Proc pid) _ _
      (stays (kernel_with (Proc pid) (Living row)) (Proc pid) (Living row) (replies.Fail Einval)
      (λ child ending is. absurd (cc)) (lives-there pid row))) name body named (makes refl)
  effect-leaves (calls.Kill target Zero) name body named fits makes =
      kill-serves target Zero (nat_eq target pid) refl refl (λ k. refl) name body named fits makes
  effect-leaves (calls.Kill target (Is g)) name body named fits makes =
      kill-serves target (Is g) (nat_eq target pid) refl refl (λ k. refl) name body named fits makes
  effect-leaves (calls.SigAction sig action) name body named fits makes =
      own-serves (calls.SigAction sig action)
      (λ row others. by-some (Proc pid) _ _ (acts pid row (act_on row.signals sig action))) name body named (makes refl)
  effect-leaves (calls.SigProcMask how set) name body named fits makes =
      own-serves (calls.SigProcMask how set)
      (λ row others. by-some (Proc pid) _ _
      (changes-signals pid row (with_mask row.signals how set) (replies.Bits row.signals.mask)
      (λ child ending is. absurd (cc)))) name body named (makes refl)
  effect-leaves calls.SigPending name body named fits makes =
      own-serves calls.SigPending
      (λ row others. by-some (Proc pid) _ _
      (stays (kernel_with (Proc pid) (Living row)) (Proc pid) (Living row) (replies.Bits row.signals.pending)
      (λ child ending is. absurd (cc)) (lives-there pid row))) name body named (makes refl)
  effect-leaves (calls.Handled sig) name body named fits makes =
      own-serves (calls.Handled sig)
      (λ row others. by-some (Proc pid) _ _
      (stays (kernel_with (Proc pid) (Living row)) (Proc pid) (Living row) (replies.Num (at row.signals.handled sig))
      (λ child ending is. absurd (cc)) (lives-there pid row))) name body named (makes refl)
  effect-leaves (calls.WaitPid child nohang) name body named fits makes =
      own-serves (calls.WaitPid child nohang)
      (λ row others. by-some (Proc pid) _ _ (reaps pid row nohang child (wait row.family child) refl others)) name body
      named (makes refl)
  effect-leaves (calls.MsgSnd id class text nowait) name body named fits makes =
      on-queue (calls.MsgSnd id class text nowait) id (λ k a. refl) refl name body named fits
  effect-leaves (calls.MsgRcv id class size noerror nowait) name body named fits makes =
      on-queue (calls.MsgRcv id class size noerror nowait) id (λ k a. refl) refl name body named fits
  effect-leaves (calls.MsgStat id) name body named fits makes =
      on-queue (calls.MsgStat id) id (λ k a. refl) refl name body named fits
  effect-leaves (calls.MsgSet id qbytes) name body named fits makes =
      on-queue (calls.MsgSet id qbytes) id (λ k a. refl) refl name body named fits
  effect-leaves (calls.MsgRmid id) name body named fits makes =
      queue-serves (calls.MsgRmid id) remove_queue id (λ k a. refl)
      (λ q. queue-gone (kernel_with (Msg id) (AQueue q)) id q) name body named fits
  effect-leaves (calls.SemOp id steps) name body named fits makes =
      on-set (calls.SemOp id steps) id (λ k a. refl) refl name body named fits
  effect-leaves (calls.SemGetVal id num) name body named fits makes =
      on-set (calls.SemGetVal id num) id (λ k a. refl) refl name body named fits
  effect-leaves (calls.SemGetPid id num) name body named fits makes =
      on-set (calls.SemGetPid id num) id (λ k a. refl) refl name body named fits
  effect-leaves (calls.SemGetNcnt id num) name body named fits makes =
      on-set (calls.SemGetNcnt id num) id (λ k a. refl) refl name body named fits
  effect-leaves (calls.SemGetZcnt id num) name body named fits makes =
      on-set (calls.SemGetZcnt id num) id (λ k a. refl) refl name body named fits
  effect-leaves (calls.SemSetVal id num value) name body named fits makes =
      on-set (calls.SemSetVal id num value) id (λ k a. refl) refl name body named fits
  effect-leaves (calls.SemGetAll id) name body named fits makes =
      on-set (calls.SemGetAll id) id (λ k a. refl) refl name body named fits
  effect-leaves (calls.SemSetAll id values) name body named fits makes =
      on-set (calls.SemSetAll id values) id (λ k a. refl) refl name body named fits
  effect-leaves (calls.SemRmid id) name body named fits makes =
      set-serves (calls.SemRmid id) remove_set id (λ k a. refl)
      (λ s. set-gone (kernel_with (Sem id) (ASet s)) id s) name body named fits

-- ---- a call that is carried out has an effect

pub record HasEffect (o : Option Effect) : Type 0 where
  pub made : Effect
  pub is : o ≡ Some made

has : (e : Effect) → HasEffect (Some e)
has e = record { made = e; is = refl }

-- a call that is served when made at once has an effect, whoever makes it
pub has-effect : (k : Kernel) (who : Waiting) (a : Alive) (call : Call) → is_served (at_once call) ≡ true
    → HasEffect (effect_by k who a call 0)
has-effect k who a (calls.Fork block) s = absurd (cc)
has-effect k who a (calls.Exit status) s = absurd (cc)
has-effect k who a (calls.Killed sig) s = absurd (cc)
has-effect k who a (calls.MsgGet key create excl) s = absurd (cc)
has-effect k who a (calls.SemGet key count create excl) s = absurd (cc)
has-effect k who a (calls.Withdraw place) s = absurd (cc)
has-effect k who a calls.GetPid s = has _
has-effect k who a (calls.Kill target sig) s = has _
has-effect k who a (calls.SigAction sig act) s = has _
has-effect k who a (calls.SigProcMask how set) s = has _
has-effect k who a calls.SigPending s = has _
has-effect k who a (calls.Handled sig) s = has _
has-effect k who a (calls.WaitPid child nohang) s = has _
has-effect k who a (calls.MsgSnd id class text nowait) s = has _
has-effect k who a (calls.MsgRcv id class size noerror nowait) s = has _
has-effect k who a (calls.MsgStat id) s = has _
has-effect k who a (calls.MsgSet id qbytes) s = has _
has-effect k who a (calls.MsgRmid id) s = has _
has-effect k who a (calls.SemOp id steps) s = has _
has-effect k who a (calls.SemGetVal id num) s = has _
has-effect k who a (calls.SemGetPid id num) s = has _
has-effect k who a (calls.SemGetNcnt id num) s = has _
has-effect k who a (calls.SemGetZcnt id num) s = has _
has-effect k who a (calls.SemSetVal id num value) s = has _
has-effect k who a (calls.SemGetAll id) s = has _
has-effect k who a (calls.SemSetAll id values) s = has _
has-effect k who a (calls.SemRmid id) s = has _
