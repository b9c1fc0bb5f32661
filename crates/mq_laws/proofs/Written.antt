-- An entry that is shown, written again in System V's words, moves a process as the entry of the journal does.
use Rattle.std.proofs.Common.{◌≡◌, ◌∙◌, ℕ, pos, negsuc, Bool, true, false, ◌&&◌, Option, Some, None, refl, ap, sym, subst}
use Rattle.std.specs.Prelude.{if◌then◌else◌, fold, nat_lt, length}
use Rattle.std.proofs.lemmas.Bool.{true≢false}
use Rattle.pico_base.specs.declared.call.Call.{Call}
use Rattle.pico_base.specs.declared.call.Call.TheVariants as calls
use Rattle.pico_base.specs.declared.reply.Entry.{Entry}
use Rattle.pico_base.specs.declared.reply.Outcome.{Outcome}
use Rattle.pico_base.specs.declared.reply.Errno.{Errno}
use Rattle.pico_base.specs.declared.reply.Errno.TheVariants.{Einval, Enomsg}
use Rattle.pico_base.specs.declared.reply.Reply.{Reply}
use Rattle.pico_base.specs.declared.reply.Reply.TheVariants as replies
use Rattle.pico_base.specs.declared.script.Script.{Script}
use Rattle.number_maps.specs.Maps.{put}
use Rattle.kernel_model.specs.Effect.{reply_alone}
use Rattle.kernel_model.specs.Fitting.{Place, asks_again, is_killed, is_tried_again, is_waitpid, move_on, place_after, value_in}
use Rattle.waiting_model.specs.Effect.{replying, outcome_of_effect}
use Rattle.waiting_model.specs.Fitting.{Places, Progress, after_entry, after_fork, after_own, after_woken, at_place, places_after}
use Rattle.waiting_model.specs.Kernel.{Kernel}
use Rattle.waiting_model.specs.Marks.{Alive}
use Rattle.waiting_model.specs.Transition.{Successor, transition}
use Rattle.waiting_laws.proofs.Steps.{Makes, makes}
use Rattle.mq_model.specs.declared.errno.MqErrno.{MqErrno}
use Rattle.mq_model.specs.declared.errno.MqErrno.TheVariants.{Base, Emsgsize}
use Rattle.mq_model.specs.Fitting.{written, written_call, written_error, written_own, written_reply}
use Rattle.mq_model.specs.Given.{is_given_call}
use Rattle.mq_model.specs.SystemV.{refusal_of, shown_call, shown_error, shown_on_queues, shown_own, shown_plainly, shown_refused}
use Rattle.mq_laws.proofs.Places.{steps-alike}

-- ---- a reply to a call on queues

-- after an error that is shown a line tries again as after the error itself
same-error : (e : Errno) → is_tried_again (written_error (shown_error e)) ≡ is_tried_again e
same-error Einval = refl
same-error Enomsg = refl
same-error e = refl

abbrev again : Reply → Reply
again reply = written_reply (shown_on_queues reply)

same-asking : (c d : Call) → is_waitpid c ≡ false → is_waitpid d ≡ false → (reply : Reply)
    → asks_again d (Some (again reply)) ≡ asks_again c (Some reply)
same-asking c d h g (replies.Num n) = ap (λ (b : Bool). b && nat_lt n 1) (g ∙ sym h)
same-asking c d h g (replies.Fail e) = same-error e
same-asking c d h g (replies.Message (pos class) text) = refl
same-asking c d h g (replies.Message (negsuc n) text) = refl
same-asking c d h g reply = refl

same-value : (reply : Reply) → value_in (Some (again reply)) ≡ value_in (Some reply)
same-value (replies.Message (pos class) text) = refl
same-value (replies.Message (negsuc n) text) = refl
same-value reply = refl

-- neither call waits for children, or is the end by a signal
record Quiet (c : Call) : Type 0 where
  waits : is_waitpid c ≡ false
  lives : is_killed c ≡ false

same-move : (place : Place) (c d : Call) → Quiet c → Quiet d → (reply : Reply)
    → move_on place d (Some (again reply)) ≡ move_on place c (Some reply)
same-move place c d h g reply =
    rw (h.lives, g.lives)
    (steps-alike place d c (again reply) reply (same-asking c d h.waits g.waits reply) (same-value reply))

abbrev again_own : Option Reply → Option Reply
again_own None = None
again_own (Some reply) = Some (again reply)

same-own : (place : Place) (c d : Call) → Quiet c → Quiet d → (own : Option Reply)
    → after_own place d (again_own own) ≡ after_own place c own
same-own place c d h g None = refl
same-own place c d h g (Some reply) = ap at_place (same-move place c d h g reply)

-- ---- entries that are shown as they are

same-entry : (call : Call) (own : Option Reply) (p : Progress)
    → after_entry (written_call (shown_call call)) (written_own (shown_own (shown_call call) own)) p
    ≡ after_entry call own p
same-entry (calls.MsgGet (Some key) create excl) None p = refl
same-entry (calls.MsgGet (Some key) create excl) (Some reply) p =
    same-own p.place (calls.MsgGet (Some key) create excl) (calls.MsgGet (Some key) create excl)
    (record { waits = refl; lives = refl })
    (record { waits = refl; lives = refl }) (Some reply)
same-entry (calls.MsgGet None create excl) None p = refl
same-entry (calls.MsgGet None create excl) (Some reply) p = refl
same-entry (calls.MsgSnd id (pos class) text nowait) None p = refl
same-entry (calls.MsgSnd id (pos class) text nowait) (Some reply) p =
    same-own p.place (calls.MsgSnd id (pos class) text nowait)
    (written_call (shown_call (calls.MsgSnd id (pos class) text nowait))) (record { waits = refl; lives = refl })
    (record { waits = refl; lives = refl }) (Some reply)
same-entry (calls.MsgSnd id (negsuc n) text nowait) None p = refl
same-entry (calls.MsgSnd id (negsuc n) text nowait) (Some reply) p = refl
same-entry (calls.MsgRcv id class size noerror nowait) None p = refl
same-entry (calls.MsgRcv id class size noerror nowait) (Some reply) p =
    same-own p.place (calls.MsgRcv id class size noerror nowait) (calls.MsgRcv id (pos 0) size false false)
    (record { waits = refl; lives = refl }) (record { waits = refl; lives = refl }) (Some reply)
same-entry (calls.MsgStat id) None p = refl
same-entry (calls.MsgStat id) (Some reply) p =
    same-own p.place (calls.MsgStat id) (calls.MsgStat id) (record { waits = refl; lives = refl })
    (record { waits = refl; lives = refl }) (Some reply)
same-entry call None p = refl
same-entry call (Some reply) p = refl

same-fork : (given : Script) (places : Places) (parent : Place) (call : Call) (own : Option Reply)
    → after_fork given places parent (written_call (shown_call call)) (written_own (shown_own (shown_call call) own))
    ≡ after_fork given places parent call own
same-fork given places parent (calls.Fork block) None = refl
same-fork given places parent (calls.Fork block) (Some reply) = refl
same-fork given places parent (calls.MsgGet (Some key) create excl) own = refl
same-fork given places parent (calls.MsgGet None create excl) own = refl
same-fork given places parent (calls.MsgSnd id (pos class) text nowait) own = refl
same-fork given places parent (calls.MsgSnd id (negsuc n) text nowait) own = refl
same-fork given places parent call own = refl

-- the places behind it
pub plainly-same : (given : Script) (places : Places) (e : Entry) (p : Progress)
    → places_after given places (written (shown_plainly e)) p ≡ places_after given places e p
plainly-same given places e p =
    ap
    (λ (x : Progress).
    fold after_woken
    (after_fork given (put places e.pid x) p.place (written_call (shown_call e.call))
    (written_own (shown_own (shown_call e.call) e.outcome.own)))
    e.outcome.woken)
    (same-entry e.call e.outcome.own p)
    ∙ ap (λ (x : Places). fold after_woken x e.outcome.woken)
    (same-fork given (put places e.pid (after_entry e.call e.outcome.own p)) p.place e.call e.outcome.own)

-- ---- entries of calls that their arguments refuse

-- a look at the pending signals has its reply at once, and wakes nobody
pub record Pending (outcome : Outcome) : Type 0 where
  pub alive : Alive
  pub is : outcome ≡ reply_alone (replies.Bits alive.row.signals.pending)

-- a look at the pending signals has its reply at once, and wakes nobody
pub looks-pending : (k : Kernel) (pid n : ℕ) (s : Successor) → transition k pid calls.SigPending n ≡ Some s
    → Pending s.outcome
looks-pending k pid n s step =
    let m : Makes k pid calls.SigPending n s = makes k pid calls.SigPending n s refl step
    in let a : Alive = m.alive
    in let does : Some (replying k (replies.Bits a.row.signals.pending)) ≡ Some m.step = m.does
    in let same : replying k (replies.Bits a.row.signals.pending) ≡ m.step = cc
    in record {
      alive = a;
      is = ap (λ (t : Successor). t.outcome) (sym m.is) ∙ ap outcome_of_effect (sym same);
    }

-- after no refusal by the arguments a line tries again

ends-by : (why : MqErrno) (b c : Bool)
    → (if b then Some (Base Einval) else if c then Some Emsgsize else None) ≡ Some why
    → is_tried_again (written_error why) ≡ false
ends-by why true c h =
    let same : Base Einval ≡ why = cc in ap (λ (w : MqErrno). is_tried_again (written_error w)) (sym same)
ends-by why false true h =
    let same : Emsgsize ≡ why = cc in ap (λ (w : MqErrno). is_tried_again (written_error w)) (sym same)
ends-by why false false h = absurd (cc)

abbrev pub pending_entry : ℕ → Outcome → ℕ → Entry
pending_entry pid outcome by = record { pid = pid; call = calls.SigPending; outcome = outcome; by = by }

not-refused : {B : Type 0} (why : MqErrno) → None ≡ Some why → B
not-refused why h = cc

module _ (script : Script) (places : Places) (pid by : ℕ) (p : Progress) (a : Alive) where
  abbrev seen : Outcome
  seen = reply_alone (replies.Bits a.row.signals.pending)

  ended : (call : Call) (why : MqErrno) → is_tried_again (written_error why) ≡ false
      → put places pid (at_place (place_after p.place call (Some (replies.Fail (written_error why)))))
      ≡ put places pid (at_place (place_after p.place calls.SigPending seen.own))
  ended call why ends =
      ap (λ (x : Place). put places pid (at_place x))
      (steps-alike p.place call calls.SigPending (replies.Fail (written_error why))
      (replies.Bits a.row.signals.pending) ends refl)

  refused-seen : (given : Call) (why : MqErrno) → is_given_call given ≡ true → refusal_of given ≡ Some why
      → places_after script places (written (shown_refused (pending_entry pid seen by) given why)) p
      ≡ places_after script places (pending_entry pid seen by) p
  refused-seen (calls.MsgSnd id (pos n) text nowait) why is h =
      ended (calls.MsgSnd id (pos n) text false) why (ends-by why (nat_lt 31 n) (nat_lt 16 (length text)) h)
  refused-seen (calls.MsgSnd id (negsuc n) text nowait) why is h = absurd (true≢false (sym is))
  refused-seen (calls.MsgRcv id class size noerror nowait) why is h =
      ended (calls.MsgRcv id (pos 0) size false false) why (ends-by why false (nat_lt size 16) h)
  refused-seen given why is h = not-refused why h

-- the places behind it
pub refused-same : (script : Script) (places : Places) (e : Entry) (p : Progress) (given : Call) (why : MqErrno)
    → e.call ≡ calls.SigPending → Pending e.outcome → is_given_call given ≡ true → refusal_of given ≡ Some why
    → places_after script places (written (shown_refused e given why)) p ≡ places_after script places e p
refused-same script places e p given why at pending is h =
    let a : Alive = pending.alive
    in let same : e ≡ pending_entry e.pid (reply_alone (replies.Bits a.row.signals.pending)) e.by =
    ap (λ (c : Call). (let x : Entry = record { pid = e.pid; call = c; outcome = e.outcome; by = e.by } in x)) at
    ∙ ap (λ (o : Outcome). pending_entry e.pid o e.by) pending.is
    in subst
    (λ (x : Entry).
    places_after script places (written (shown_refused x given why)) p ≡ places_after script places x p)
    (sym same) (refused-seen script places e.pid e.by p pending.alive given why is h)
