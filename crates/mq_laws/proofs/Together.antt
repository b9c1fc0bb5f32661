-- Kernels that are alike step together.
use Rattle.std.proofs.Common.{◌≡◌, ℕ, ◌≤◌, ℤ, pos, negsuc, Bool, true, false, ◌&&◌, List, length, Option, Some, None, refl, ap, sym, subst, leb-true}
use Rattle.std.specs.Prelude.{if◌then◌else◌, nat_lt, nat_le}
use Rattle.std.specs.Ordering.{int_eq}
use Rattle.std.proofs.lemmas.Bool.{true≢false, and_parts}
use Rattle.std.proofs.lemmas.Bool.Decides.{Decides-int_eq}
use Rattle.pico_base.specs.declared.call.Call.{Call}
use Rattle.pico_base.specs.declared.call.Call.TheVariants as calls
use Rattle.pico_base.specs.declared.reply.Reply.TheVariants.{Bits}
use Rattle.waiting_model.specs.Effect.{replying, outcome_of_effect}
use Rattle.waiting_model.specs.Kernel.{Kernel, living_at, change_living}
use Rattle.waiting_model.specs.Marks.{Alive}
use Rattle.waiting_model.specs.Plain.{AllValues}
use Rattle.waiting_model.specs.Transition.{Successor, successor, finish_call, transition, transition_by}
use Rattle.waiting_laws.specs.Sound.{IsSound}
use Rattle.waiting_laws.proofs.Soundness.{entries-keep-soundness}
use Rattle.mq_model.specs.declared.errno.MqErrno.{MqErrno}
use Rattle.mq_model.specs.declared.errno.MqErrno.TheVariants.{Base, Emsgsize}
use Rattle.pico_base.specs.declared.reply.Errno.TheVariants.{Einval}
use Rattle.mq_model.specs.Queue.{max_text}
use Rattle.mq_model.specs.Calls.{MqOutcome, Open, Send, Receive, GetAttr, Refused}
use Rattle.mq_model.specs.Kernel.{MqKernel}
use Rattle.mq_model.specs.Given.{is_given_call}
use Rattle.mq_model.specs.SystemV.{refusal_of, given_call, shown_call, shown_outcome, turned}
use Rattle.mq_model.specs.Transition as mq
use Rattle.mq_model.specs.Transition.{MqSuccessor, MqEffect, alone, after_call, after_effect, may_act, mq_transition, on_queues}
use Rattle.mq_laws.specs.Alike.{StandsForQueue, shown_kernel, is_turned}
use Rattle.mq_laws.specs.Together.{LeadAlike, is_carried_out, CallsStepTogether, RefusalsStepTogether, KernelsStepTogether}
use Rattle.mq_laws.proofs.Finishing.{finished, with_processes}
use Rattle.mq_laws.proofs.Leads.{LeadShown}
use Rattle.mq_laws.proofs.Messages.{Turned, turned-class}
use Rattle.mq_laws.proofs.OnQueues.{call-together}
use Rattle.mq_laws.proofs.Others.{others-together}
use Rattle.mq_laws.proofs.Queues.{opens, sends, receives, looks-at}

-- what is known of the kernel of System V is known of the next one
pub alike-again : (k : Kernel) → IsSound k → (pid : ℕ) (call : Call) (n : ℕ) (outcome : Successor → MqOutcome)
    → (o : Option Successor) → transition k pid call n ≡ o → (p : Option MqSuccessor) → LeadShown outcome o p
    → LeadAlike outcome o p
alike-again k sound pid call n outcome None is None leads = tt
alike-again k sound pid call n outcome (Some s) is (Some t) leads =
    record {
      outcome_is = leads.outcome_is;
      alike =
          record {
            shown = leads.shown;
            queues = leads.queues;
            sound = entries-keep-soundness k pid call n s sound is;
          };
    }
alike-again k sound pid call n outcome None is (Some t) leads = absurd leads
alike-again k sound pid call n outcome (Some s) is None leads = absurd leads

module _ (k : Kernel) (stand : AllValues StandsForQueue k.queues) (sound : IsSound k) (pid : ℕ) where
  abbrev Together : Call → ℕ → Type 0
  Together call n =
      LeadShown (λ s. shown_outcome (shown_call call) s.outcome) (transition k pid call n)
      (mq_transition (shown_kernel k) pid (shown_call call) n)

  sends-together : (id : ℕ) (class : ℤ) (text : List ℕ) (n : ℕ) → Turned class → length text ≤ 16
      → Together (calls.MsgSnd id class text true) n
  sends-together id class text n t short =
      subst (λ (z : ℤ). Together (calls.MsgSnd id z text true) n) (sym t.is)
      (call-together k sound.processes pid (Send id (turned t.class) text) (calls.MsgSnd id (pos t.class) text true) n
      (Some (mq.send (shown_kernel k) id (turned t.class) text)) refl (λ a. refl)
      (λ a. sends k stand sound.queues id pid t.class t.above t.below text short))

  sends-as : (id : ℕ) (class : ℤ) (text : List ℕ) (nowait : Bool) (n : ℕ)
      → is_carried_out (calls.MsgSnd id class text nowait) ≡ true → Together (calls.MsgSnd id class text nowait) n
  sends-as id class text nowait n h =
      let parts = and_parts (is_turned class) (nat_le (length text) max_text && nowait) h
      in let more = and_parts (nat_le (length text) max_text) nowait parts.1
      in subst (λ (b : Bool). Together (calls.MsgSnd id class text b) n) (sym more.1)
      (sends-together id class text n (turned-class class parts.0) (leb-true (length text) max_text more.0))

  receives-together : (id size n : ℕ) → 16 ≤ size → Together (calls.MsgRcv id (negsuc 31) size false true) n
  receives-together id size n room =
      call-together k sound.processes pid (Receive id size) (calls.MsgRcv id (negsuc 31) size false true) n
      (Some (mq.receive (shown_kernel k) id size)) refl (λ a. refl)
      (λ a. receives k stand sound.queues id pid size room)

  receives-as : (id : ℕ) (class : ℤ) (size : ℕ) (noerror nowait : Bool) (n : ℕ)
      → is_carried_out (calls.MsgRcv id class size noerror nowait) ≡ true
      → Together (calls.MsgRcv id class size noerror nowait) n
  receives-as id class size true nowait n h =
      let parts = and_parts (int_eq class (negsuc 31)) (nat_le max_text size && false) h
      in absurd (true≢false (sym (and_parts (nat_le max_text size) false parts.1).1))
  receives-as id class size false nowait n h =
      let parts = and_parts (int_eq class (negsuc 31)) (nat_le max_text size && nowait) h
      in let more = and_parts (nat_le max_text size) nowait parts.1
      in subst (λ (b : Bool). Together (calls.MsgRcv id class size false b) n) (sym more.1)
      (subst (λ (z : ℤ). Together (calls.MsgRcv id z size false true) n)
      (sym ((Decides-int_eq class (negsuc 31)).0 parts.0))
      (receives-together id size n (leb-true max_text size more.0)))

  together : (call : Call) (n : ℕ) → is_carried_out call ≡ true → Together call n
  together (calls.MsgGet None create excl) n h = absurd (true≢false (sym h))
  together (calls.MsgGet (Some name) create excl) n h =
      call-together k sound.processes pid (Open name create excl) (calls.MsgGet (Some name) create excl) n
      (mq.open_queue (shown_kernel k) name create excl n) refl (λ a. refl)
      (λ a. opens k stand sound.queues name create excl n)
  together (calls.MsgSnd id class text nowait) n h = sends-as id class text nowait n h
  together (calls.MsgRcv id class size noerror nowait) n h = receives-as id class size noerror nowait n h
  together (calls.MsgStat id) n h =
      call-together k sound.processes pid (GetAttr id) (calls.MsgStat id) n (Some (mq.attributes (shown_kernel k) id))
      refl (λ a. refl) (λ a. looks-at k stand sound.queues id pid)
  together (calls.MsgSet id qbytes) n h = absurd (true≢false (sym h))
  together (calls.MsgRmid id) n h = absurd (true≢false (sym h))
  together call n h = others-together k stand sound.queues pid call n refl

  -- ---- refusals by the arguments

  refused-living : (why : MqErrno) (n : ℕ) (o : Option Alive) → living_at k pid ≡ o
      → LeadShown (λ s. alone (Refused why)) (transition_by k pid calls.SigPending n o)
      (on_queues (shown_kernel k) pid (Some (mq.refuse (shown_kernel k) why)) o)
  refused-living why n None lives = tt
  refused-living why n (Some a) lives = by_test (may_act a)
    where
      done : finish_call k pid calls.SigPending (Some (Bits a.row.signals.pending))
          ≡ with_processes k (change_living k.processes pid after_call)
      done = finished k sound.processes pid a lives calls.SigPending (Bits a.row.signals.pending)

      by_test : (b : Bool)
          → LeadShown (λ s. alone (Refused why))
          (if b
          then Some (successor (finish_call k pid calls.SigPending (Some (Bits a.row.signals.pending)))
          (outcome_of_effect (replying k (Bits a.row.signals.pending))))
          else None)
          (if b then Some (after_effect pid (mq.refuse (shown_kernel k) why)) else None)
      by_test false = tt
      by_test true =
          record {
            outcome_is = refl;
            shown = ap shown_kernel (sym done);
            queues = subst (λ (i : Kernel). AllValues StandsForQueue i.queues) (sym done) stand;
          }

  refused : (why : MqErrno) (n : ℕ) (e : MqEffect) → e ≡ mq.refuse (shown_kernel k) why
      → LeadShown (λ s. alone (Refused why)) (transition k pid calls.SigPending n)
      (on_queues (shown_kernel k) pid (Some e) (living_at k pid))
  refused why n e is =
      subst
      (λ (x : MqEffect).
      LeadShown (λ s. alone (Refused why)) (transition k pid calls.SigPending n)
      (on_queues (shown_kernel k) pid (Some x) (living_at k pid)))
      (sym is) (refused-living why n (living_at k pid) refl)

-- the arguments refuse in the same order

same-refusal : (m : MqKernel) (why : MqErrno) (b c : Bool) (e : MqEffect)
    → (if b then Some (Base Einval) else if c then Some Emsgsize else None) ≡ Some why
    → (if b then mq.refuse m (Base Einval) else if c then mq.refuse m Emsgsize else e) ≡ mq.refuse m why
same-refusal m why true c e h = let same : Base Einval ≡ why = cc in ap (mq.refuse m) same
same-refusal m why false true e h = let same : Emsgsize ≡ why = cc in ap (mq.refuse m) same
same-refusal m why false false e h = absurd (cc)

short-refusal : (m : MqKernel) (why : MqErrno) (b : Bool) (e : MqEffect)
    → (if b then Some Emsgsize else None) ≡ Some why
    → (if b then mq.refuse m Emsgsize else e) ≡ mq.refuse m why
short-refusal m why true e h = let same : Emsgsize ≡ why = cc in ap (mq.refuse m) same
short-refusal m why false e h = absurd (cc)

no-refusal : {B : Type 0} (why : MqErrno) → None ≡ Some why → B
no-refusal why h = cc

refusals : (k : Kernel) → AllValues StandsForQueue k.queues → IsSound k → (pid : ℕ) (given : Call) (why : MqErrno)
    → (n : ℕ) → is_given_call given ≡ true → refusal_of given ≡ Some why
    → LeadShown (λ s. alone (Refused why)) (transition k pid calls.SigPending n)
    (mq_transition (shown_kernel k) pid (given_call given) n)
refusals k stand sound pid (calls.MsgSnd id (pos p) text nowait) why n given h =
    refused k stand sound pid why n (mq.send (shown_kernel k) id p text)
    (same-refusal (shown_kernel k) why (nat_lt 31 p) (nat_lt 16 (length text)) _ h)
refusals k stand sound pid (calls.MsgSnd id (negsuc p) text nowait) why n given h = absurd (true≢false (sym given))
refusals k stand sound pid (calls.MsgRcv id class size noerror nowait) why n given h =
    refused k stand sound pid why n (mq.receive (shown_kernel k) id size)
    (short-refusal (shown_kernel k) why (nat_lt size 16) _ h)
refusals k stand sound pid given why n is h = no-refusal why h

-- ---- the laws

-- a call that is carried out, and the call that it stands for
pub calls-together : CallsStepTogether
calls-together k m pid call n alike h =
    subst
    (λ (j : MqKernel).
    LeadAlike (λ s. shown_outcome (shown_call call) s.outcome) (transition k pid call n)
    (mq_transition j pid (shown_call call) n))
    (sym alike.shown)
    (alike-again k alike.sound pid call n (λ s. shown_outcome (shown_call call) s.outcome)
    (transition k pid call n) refl
    (mq_transition (shown_kernel k) pid (shown_call call) n) (together k alike.queues alike.sound pid call n h))

-- a look at the pending signals, and the call that its arguments refuse
pub refusals-together : RefusalsStepTogether
refusals-together k m pid given why n alike is h =
    subst
    (λ (j : MqKernel).
    LeadAlike (λ s. alone (Refused why)) (transition k pid calls.SigPending n)
    (mq_transition j pid (given_call given) n))
    (sym alike.shown)
    (alike-again k alike.sound pid calls.SigPending n (λ s. alone (Refused why))
    (transition k pid calls.SigPending n) refl
    (mq_transition (shown_kernel k) pid (given_call given) n)
    (refusals k alike.queues alike.sound pid given why n is h))

-- both
pub kernels-together : KernelsStepTogether
kernels-together = (calls-together, refusals-together)
