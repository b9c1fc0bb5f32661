-- A served call has an effect, whatever number is offered. It uses no number, leaves the keys where it removes nothing,
-- and its caller lives on.
use Rattle.std.proofs.Common.{◌≡◌, ◌≢◌, ℕ, Bool, true, false, not, List, Option, Some, None, Result, Ok, Err, refl, ap, sym, ◌∙◌, inl, inr, nat_eq}
use Rattle.std.specs.Prelude.{if◌then◌else◌}
use Rattle.std.specs.List.{list_any}
use Rattle.std.specs.Option.{option_and_then}
use Rattle.std.proofs.lemmas.Bool.{cases_eq}
use Rattle.pico_base.specs.declared.call.Call.{Call}
use Rattle.pico_base.specs.declared.call.Call.TheVariants as calls
use Rattle.pico_base.specs.declared.call.SemStep.{SemStep}
use Rattle.pico_base.specs.declared.numbers.Kind.{Kind}
use Rattle.pico_base.specs.declared.reply.Ending.{Ending}
use Rattle.pico_base.specs.declared.reply.Errno.{Errno}
use Rattle.pico_base.specs.declared.reply.Errno.TheVariants.{Einval}
use Rattle.pico_base.specs.declared.reply.Reply.{Reply}
use Rattle.pico_base.specs.declared.reply.Reply.TheVariants as replies
use Rattle.pico_base.specs.declared.signal.SigArg.{SigArg}
use Rattle.pico_base.specs.declared.signal.SigArg.TheVariants.{Zero, Is, Bad}
use Rattle.pico_base.specs.Signal.{at}
use Rattle.number_maps.specs.Maps.{Numbered, get, put}
use Rattle.number_maps.proofs.LookUps.{get-put-same, get-put-other}
use Rattle.kernel_model.specs.Signals.{Signals, act_on, with_mask}
use Rattle.kernel_model.specs.Queue.{Queue, Received, send, receive, set_qbytes}
use Rattle.kernel_model.specs.SemaphoreSet.{SemaphoreSet, op, value_at, last_at, waiting_at, set_value, set_all}
use Rattle.kernel_model.specs.Row.{Alive, Waited, Found, NotYet, NoChild, wait}
use Rattle.kernel_model.specs.Kernel.{Kernel, Process, alive_in, living_at, with_alive}
use Rattle.kernel_model.specs.Kernel as kernel
use Rattle.kernel_model.specs.Effect.{Effect, look_up, on_named}
use Rattle.kernel_model.specs.ProcessCalls.{action_effect, kill_at, parent_after_wait, reap_child, signal_living}
use Rattle.kernel_model.specs.QueueCalls.{change_queue, receive_effect, remove_queue, stat_effect}
use Rattle.kernel_model.specs.SetCalls.{all_values, change_set, remove_set}
use Rattle.kernel_model.specs.Waiting.{may_wait}
use Rattle.kernel_model.specs.Transition.{effect}
use Rattle.kernel_model.specs.Footprint.{used_of}
use Rattle.kernel_model.specs.Valid.{IsValid}
use Rattle.kernel_laws.proofs.Members.{found-contained}
use Rattle.kernel_laws.proofs.People.{from-living}
use Rattle.node_model.specs.Carrying.{is_removal, is_served}
use Rattle.entry_laws.proofs.Others.{Lived}

abbrev effect_to : Kernel → Reply → Effect
effect_to k r = record { kernel = k; reply = r }

-- the caller lives after it if it lived before
abbrev LivesOn : Kernel → ℕ → Kernel → Type 0
LivesOn k pid j = Lived k pid → Lived j pid

pub record Leaves (k : Kernel) (pid : ℕ) (removes : Bool) (e : Effect) : Type 0 where
  pub used : (kind : Kind) → used_of e.kernel kind ≡ used_of k kind
  pub queue_keys : removes ≡ false → e.kernel.queue_keys ≡ k.queue_keys
  pub set_keys : removes ≡ false → e.kernel.set_keys ≡ k.set_keys
  pub lives : LivesOn k pid e.kernel

living-put : (ps : Numbered Process) (n p : ℕ) (b : Alive) (a : Alive)
    → option_and_then alive_in (get ps p) ≡ Some a
    → (c : Alive) × (option_and_then alive_in (get (put ps n (kernel.Living b)) p) ≡ Some c)
living-put ps n p b a lives =
    elim (cases_eq p n) [
      | inl same ↦ (
        b,
        ap (λ (q : ℕ). option_and_then alive_in (get (put ps n (kernel.Living b)) q)) same
            ∙ ap (option_and_then alive_in) (get-put-same ps n (kernel.Living b)),
      )
      | inr other ↦ (a, ap (option_and_then alive_in) (get-put-other ps n (kernel.Living b) p other) ∙ lives)
    ]

module _ (k : Kernel) (pid : ℕ) where
  same : (t : Bool) (r : Reply) → Leaves k pid t (effect_to k r)
  same t r = record { used = λ kind. refl; queue_keys = λ h. refl; set_keys = λ h. refl; lives = λ h. h }

  queues : (t : Bool) (qs : Numbered Queue) (r : Reply) → Leaves k pid t (effect_to (record k { queues = qs }) r)
  queues t qs r = record {
    used = λ kind. refl;
    queue_keys = λ h. refl;
    set_keys = λ h. refl;
    lives = λ h. record { alive = h.alive; lives = h.lives };
  }

  sets : (t : Bool) (ss : Numbered SemaphoreSet) (r : Reply) → Leaves k pid t (effect_to (record k { sets = ss }) r)
  sets t ss r = record {
    used = λ kind. refl;
    queue_keys = λ h. refl;
    set_keys = λ h. refl;
    lives = λ h. record { alive = h.alive; lives = h.lives };
  }

  puts : (t : Bool) (n : ℕ) (b : Alive) (r : Reply)
      → Leaves k pid t (effect_to (record k { processes = put k.processes n (kernel.Living b) }) r)
  puts t n b r = record {
    used = λ kind. refl;
    queue_keys = λ h. refl;
    set_keys = λ h. refl;
    lives = λ h. let w = living-put k.processes n pid b h.alive h.lives in record { alive = w.0; lives = w.1 };
  }

  named : {V : Type 0} (t : Bool) (o : Option V) (f : V → Effect) → ((v : V) → Leaves k pid t (f v))
      → Leaves k pid t (on_named k o f)
  named t None f h = same t (replies.Fail Einval)
  named t (Some v) f h = h v

  looks : (t : Bool) (r : Result ℕ Errno) → Leaves k pid t (look_up k r)
  looks t (Ok m) = same t (replies.Num m)
  looks t (Err e) = same t (replies.Fail e)

  changes-queue : (t : Bool) (id : ℕ) (r : Result Queue Errno) → Leaves k pid t (change_queue k id r)
  changes-queue t id (Ok q) = queues t (put k.queues id q) (replies.Num 0)
  changes-queue t id (Err e) = same t (replies.Fail e)

  receives : (t : Bool) (id : ℕ) (r : Result Received Errno) → Leaves k pid t (receive_effect k id r)
  receives t id (Ok r) = queues t (put k.queues id r.queue) (replies.Message r.message.class r.message.text)
  receives t id (Err e) = same t (replies.Fail e)

  changes-set : (t : Bool) (id : ℕ) (r : Result SemaphoreSet Errno) → Leaves k pid t (change_set k id r)
  changes-set t id (Ok s) = sets t (put k.sets id s) (replies.Num 0)
  changes-set t id (Err e) = same t (replies.Fail e)

  acts : (t : Bool) (a : Alive) (r : Result Signals Errno) → Leaves k pid t (action_effect k pid a r)
  acts t a (Ok s) = puts t pid (record a { row = record { signals = s; family = a.row.family } }) (replies.Num 0)
  acts t a (Err e) = same t (replies.Fail e)

  raises : (t b : Bool) (target : ℕ) (one other : Alive)
      → Leaves k pid t (effect_to (if b then with_alive k target one else with_alive k target other) (replies.Num 0))
  raises t true target one other = puts t target one (replies.Num 0)
  raises t false target one other = puts t target other (replies.Num 0)

  signals : (t : Bool) (target : ℕ) (b : Alive) (sig : SigArg) → Leaves k pid t (signal_living k pid target b sig)
  signals t target b Zero = same t (replies.Num 0)
  signals t target b Bad = same t (replies.Fail Einval)
  signals t target b (Is g) = raises t (nat_eq pid target) target _ _

  kills : (t : Bool) (target : ℕ) (sig : SigArg) (o : Option Process) → Leaves k pid t (kill_at k pid target sig o)
  kills t target sig None = same t _
  kills t target sig (Some kernel.Gone) = same t _
  kills t target sig (Some (kernel.Ended ending)) = same t _
  kills t target sig (Some (kernel.Living b)) = signals t target b sig

  reaps : (t : Bool) (a : Alive) (which : Option ℕ) (w : Waited)
      → ((child : ℕ) (ending : Ending) → wait a.row.family which ≡ Found child ending → pid ≢ child)
      → wait a.row.family which ≡ w → Leaves k pid t (reap_child k pid a w)
  reaps t a which (Found child ending) apart is =
      let mid : Numbered Process = put k.processes pid (kernel.Living (parent_after_wait a child))
      in record {
        used = λ kind. refl;
        queue_keys = λ h. refl;
        set_keys = λ h. refl;
        lives = λ h. record {
          alive = parent_after_wait a child;
          lives = ap (option_and_then alive_in)
              (get-put-other mid child kernel.Gone pid (apart child ending is)
              ∙ get-put-same k.processes pid (kernel.Living (parent_after_wait a child)));
        };
      }
  reaps t a which NotYet apart is = same t _
  reaps t a which NoChild apart is = same t _

-- a child that a process finds isn't that process
pub found-apart : (k : Kernel) (pid : ℕ) (a : Alive) → IsValid k → living_at k pid ≡ Some a → (which : Option ℕ)
    (child : ℕ) (ending : Ending) → wait a.row.family which ≡ Found child ending → pid ≢ child
found-apart k pid a valid lives which child ending is same =
    let kept : get k.processes child ≡ Some (kernel.Ended ending) =
    (valid.alive pid a lives).ended child ending (found-contained a.row.family which child ending is)
    in let both : Some (kernel.Living a) ≡ Some (kernel.Ended ending) =
    sym (from-living k.processes pid a lives) ∙ ap (get k.processes) same ∙ kept
    in cc

-- the effect of a call
pub record Gives (k : Kernel) (pid : ℕ) (a : Alive) (call : Call) (n : ℕ) : Type 0 where
  pub result : Effect
  pub gives : effect k pid a call n ≡ Some result
  pub leaves : Leaves k pid (is_removal call) result

operates-by : (k : Kernel) (pid n : ℕ) (a : Alive) (id : ℕ) (steps : List SemStep) → list_any may_wait steps ≡ false
    → Gives k pid a (calls.SemOp id steps) n
operates-by k pid n a id steps ready =
    let found : Effect = on_named k (get k.sets id) (λ s. change_set k id (op s pid steps))
    in record {
      result = found;
      gives = ap (λ (b : Bool). if b then None else Some found) ready;
      leaves = named k pid false (get k.sets id) _ (λ s. changes-set k pid false id (op s pid steps));
    }

module _ (k : Kernel) (pid n : ℕ) (a : Alive) where
  pub gives : (call : Call) → is_served call ≡ true → IsValid k → living_at k pid ≡ Some a → Gives k pid a call n
  gives (calls.Fork block) s valid lives = absurd (cc)
  gives (calls.Exit status) s valid lives = absurd (cc)
  gives (calls.Killed sig) s valid lives = absurd (cc)
  gives (calls.MsgGet key create excl) s valid lives = absurd (cc)
  gives (calls.SemGet key count create excl) s valid lives = absurd (cc)
  gives calls.GetPid s valid lives = record { result = _; gives = refl; leaves = same k pid false (replies.Num pid) }
  gives (calls.Kill target Bad) s valid lives =
      record { result = _; gives = refl; leaves = same k pid false (replies.Fail Einval) }
  gives (calls.Kill target Zero) s valid lives =
      record { result = _; gives = refl; leaves = kills k pid false target Zero (get k.processes target) }
  gives (calls.Kill target (Is g)) s valid lives =
      record { result = _; gives = refl; leaves = kills k pid false target (Is g) (get k.processes target) }
  gives (calls.SigAction sig action) s valid lives =
      record { result = _; gives = refl; leaves = acts k pid false a (act_on a.row.signals sig action) }
  gives (calls.SigProcMask how set) s valid lives =
      record {
        result = _;
        gives = refl;
        leaves = puts k pid false pid
            (record a { row = record { signals = with_mask a.row.signals how set; family = a.row.family } })
            (replies.Bits a.row.signals.mask);
      }
  gives calls.SigPending s valid lives =
      record { result = _; gives = refl; leaves = same k pid false (replies.Bits a.row.signals.pending) }
  gives (calls.Handled sig) s valid lives =
      record { result = _; gives = refl; leaves = same k pid false (replies.Num (at a.row.signals.handled sig)) }
  gives (calls.WaitPid child true) s valid lives =
      record {
        result = _;
        gives = refl;
        leaves = reaps k pid false a child (wait a.row.family child) (found-apart k pid a valid lives child) refl;
      }
  gives (calls.WaitPid child false) s valid lives = absurd (cc)
  gives (calls.MsgSnd id class text true) s valid lives =
      record {
        result = _;
        gives = refl;
        leaves = named k pid false (get k.queues id) _ (λ q. changes-queue k pid false id (send q pid class text));
      }
  gives (calls.MsgSnd id class text false) s valid lives = absurd (cc)
  gives (calls.MsgRcv id class size noerror true) s valid lives =
      record {
        result = _;
        gives = refl;
        leaves = named k pid false (get k.queues id) _
            (λ q. receives k pid false id (receive q pid class size noerror));
      }
  gives (calls.MsgRcv id class size noerror false) s valid lives = absurd (cc)
  gives (calls.Withdraw name) s valid lives = absurd (cc)
  gives (calls.MsgStat id) s valid lives =
      record {
        result = _;
        gives = refl;
        leaves = named k pid false (get k.queues id) (stat_effect k) (λ q. same k pid false _);
      }
  gives (calls.MsgSet id qbytes) s valid lives =
      record {
        result = _;
        gives = refl;
        leaves = named k pid false (get k.queues id) _ (λ q. changes-queue k pid false id (set_qbytes q qbytes));
      }
  gives (calls.MsgRmid id) s valid lives =
      record {
        result = _;
        gives = refl;
        leaves = named k pid true (get k.queues id) (λ _. remove_queue k id)
            (λ q. record {
              used = λ kind. refl;
              queue_keys = λ h. absurd (cc);
              set_keys = λ h. refl;
              lives = λ h. record { alive = h.alive; lives = h.lives };
            });
      }
  gives (calls.SemOp id steps) s valid lives = operates-by k pid n a id steps (ready (list_any may_wait steps) s)
    where
      ready : (b : Bool) → not b ≡ true → b ≡ false
      ready true h = absurd (cc)
      ready false h = refl
  gives (calls.SemGetVal id num) s valid lives =
      record {
        result = _;
        gives = refl;
        leaves = named k pid false (get k.sets id) _ (λ s. looks k pid false (value_at s num));
      }
  gives (calls.SemGetPid id num) s valid lives =
      record {
        result = _;
        gives = refl;
        leaves = named k pid false (get k.sets id) _ (λ s. looks k pid false (last_at s num));
      }
  gives (calls.SemGetNcnt id num) s valid lives =
      record {
        result = _;
        gives = refl;
        leaves = named k pid false (get k.sets id) _ (λ s. looks k pid false (waiting_at s num));
      }
  gives (calls.SemGetZcnt id num) s valid lives =
      record {
        result = _;
        gives = refl;
        leaves = named k pid false (get k.sets id) _ (λ s. looks k pid false (waiting_at s num));
      }
  gives (calls.SemSetVal id num value) s valid lives =
      record {
        result = _;
        gives = refl;
        leaves = named k pid false (get k.sets id) _ (λ s. changes-set k pid false id (set_value s num value));
      }
  gives (calls.SemGetAll id) s valid lives =
      record {
        result = _;
        gives = refl;
        leaves = named k pid false (get k.sets id) (all_values k) (λ s. same k pid false _);
      }
  gives (calls.SemSetAll id values) s valid lives =
      record {
        result = _;
        gives = refl;
        leaves = named k pid false (get k.sets id) _ (λ s. changes-set k pid false id (set_all s values));
      }
  gives (calls.SemRmid id) s valid lives =
      record {
        result = _;
        gives = refl;
        leaves = named k pid true (get k.sets id) (λ _. remove_set k id)
            (λ s. record {
              used = λ kind. refl;
              queue_keys = λ h. refl;
              set_keys = λ h. absurd (cc);
              lives = λ h. record { alive = h.alive; lives = h.lives };
            });
      }

-- whatever number is offered
pub effect-any : (k : Kernel) (pid : ℕ) (a : Alive) (call : Call) (n m : ℕ) → is_served call ≡ true
    → effect k pid a call n ≡ effect k pid a call m
effect-any k pid a (calls.Fork block) n m s = absurd (cc)
effect-any k pid a (calls.MsgGet key create excl) n m s = absurd (cc)
effect-any k pid a (calls.SemGet key count create excl) n m s = absurd (cc)
effect-any k pid a (calls.WaitPid child true) n m s = refl
effect-any k pid a (calls.WaitPid child false) n m s = refl
effect-any k pid a (calls.MsgSnd id class text true) n m s = refl
effect-any k pid a (calls.MsgSnd id class text false) n m s = refl
effect-any k pid a (calls.MsgRcv id class size noerror true) n m s = refl
effect-any k pid a (calls.MsgRcv id class size noerror false) n m s = refl
effect-any k pid a call n m s = refl
