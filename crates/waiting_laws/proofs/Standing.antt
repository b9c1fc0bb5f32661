-- What an effect comes to in line, and with which calls processes wait at a queue or a set.
use Rattle.std.proofs.Common.{◌≡◌, ◌∙◌, ℕ, Bool, true, false, List, [], ◌∷◌, ◌++◌, map, Option, Some, None, refl, ap, sym, subst}
use Rattle.std.specs.Prelude.{if◌then◌else◌}
use Rattle.std.specs.List.{AllByRecursion}
use Rattle.std.proofs.lemmas.Bool.{false≢true}
use Rattle.pico_base.specs.declared.call.Call.{Call}
use Rattle.pico_base.specs.declared.call.Call.TheVariants as calls
use Rattle.pico_base.specs.declared.numbers.Name.{Name}
use Rattle.pico_base.specs.declared.numbers.Name.TheVariants.{Msg, Sem}
use Rattle.pico_base.specs.declared.reply.Errno.{Errno}
use Rattle.pico_base.specs.declared.reply.Reply.{Reply}
use Rattle.number_maps.specs.Maps.{Numbered, get}
use Rattle.number_maps.specs.Rising.{IsRising}
use Rattle.number_maps.proofs.Order.{eq-same, same-from-nat_eq}
use Rattle.kernel_model.specs.Effect as plain_effects
use Rattle.kernel_model.specs.History.{number_in}
use Rattle.kernel_model.specs.Kernel as plain
use Rattle.kernel_model.specs.Queue.{Queue}
use Rattle.kernel_model.specs.Row as plain_rows
use Rattle.kernel_model.specs.SemaphoreSet.{SemaphoreSet}
use Rattle.kernel_model.specs.Transition as plain_steps
use Rattle.kernel_laws.proofs.Plain.{from_some, not_some}
use Rattle.waiting_model.specs.declared.callers.Waiting.{Waiting}
use Rattle.waiting_model.specs.declared.callers.Wake.{Wake}
use Rattle.waiting_model.specs.Calls.{is_same_name, waits_at}
use Rattle.waiting_model.specs.Waiters.{Awaited}
use Rattle.waiting_model.specs.Kernel.{Kernel}
use Rattle.waiting_model.specs.Effect.{Effect, refuse, woken_pair}
use Rattle.waiting_model.specs.Linear.{LeadInLine, LeadsTo, Does, at_once, counts_waiters, line_of}
use Rattle.waiting_model.specs.Transition.{finish_call}
use Rattle.waiting_laws.specs.InLine.{IsAlike}
use Rattle.waiting_laws.specs.Lines.{MayMakeLine, MayMakeLines, own_line, wait_lines}
use Rattle.waiting_laws.specs.Parked.{MarksAreWaits, WaitOnce, mark_at, mark_in, wait_in, wait_of}
use Rattle.waiting_laws.specs.Settled.{NobodyCouldGoOn}
use Rattle.waiting_laws.proofs.AtOnce.{may-at-once}
use Rattle.waiting_laws.proofs.Fair.{AllFair, fair-finished}
use Rattle.waiting_laws.proofs.Maps.{all-get}
use Rattle.waiting_laws.proofs.OwnLines.{SameInForm}
use Rattle.waiting_laws.proofs.Rows.{RowsAlike, alike-finished, in_form, plain-finished, rows-spent, spent_in}
use Rattle.waiting_laws.proofs.Steps.{plain-step-is}
use Rattle.waiting_laws.proofs.Tries.{at_queue, at_set}
use Rattle.waiting_laws.proofs.Waits.{differs}

-- The effect's lines lead to a kernel that is alike, and who is doomed afterwards isn't free.
pub record StandsInLine (k : Kernel) (j : plain.Kernel) (node pid : ℕ) (call : Call) (e : Effect) : Type 0 where
  pub last : plain.Kernel
  pub leads : LeadInLine j (own_line node pid call e.own ++ wait_lines k node (map woken_pair e.wakes)) last
  pub alike : IsAlike (finish_call e.kernel pid call e.own) last
  pub fair : (let next : Kernel = finish_call e.kernel pid call e.own in AllFair next.processes)

-- ---- the same effect in both kernels

module _ (k : Kernel) (qs : Numbered plain.Process) (node pid : ℕ) (call : Call) (b : plain_rows.Alive)
    (lives : plain.living_in qs pid ≡ Some b) where
  -- its line
  pub same-line : (p : plain_effects.Effect) → MayMakeLine (in_form k qs) (line_of node pid call p.reply)
      → plain_steps.effect (in_form k qs) pid b (at_once call) (number_in (Some p.reply)) ≡ Some p
      → LeadsTo (in_form k qs) (line_of node pid call p.reply)
      (plain_steps.finish_call p.kernel pid (plain.living_at p.kernel pid))
  same-line p may does =
      Does
      (plain-step-is (in_form k qs) pid (at_once call) (number_in (Some p.reply)) b p lives
      (may-at-once b call ∙ may b lives) does)

  -- the other kernel after the call, where it has the form of the whole one
  pub finished-alike : (e : Kernel) (rows : Numbered plain.Process) → RowsAlike e.processes rows → (own : Option Reply)
      → (m : plain.Kernel) → in_form e rows ≡ m
      → IsAlike (finish_call e pid call own) (plain_steps.finish_call m pid (plain.living_at m pid))
  finished-alike e rows alike own m is =
      subst
      (λ (x : plain.Kernel).
      IsAlike (finish_call e pid call own) (plain_steps.finish_call x pid (plain.living_at x pid)))
      is
      (subst (λ (x : plain.Kernel). IsAlike (finish_call e pid call own) x)
      (sym (plain-finished (in_form e rows) pid (plain.living_in rows pid)))
      (alike-finished e (spent_in rows pid (plain.living_in rows pid))
      (rows-spent e.processes rows alike pid (plain.living_in rows pid) refl) pid call own))

  -- it stands in line as one line
  pub stands-same : (e : Effect) (p : plain_effects.Effect) → SameInForm k pid e p
      → MayMakeLines (in_form k qs) (own_line node pid call e.own ++ wait_lines k node (map woken_pair e.wakes))
      → plain_steps.effect (in_form k qs) pid b (at_once call) (number_in (Some p.reply)) ≡ Some p
      → StandsInLine k (in_form k qs) node pid call e
  stands-same e p same may does =
      let last : plain.Kernel = plain_steps.finish_call p.kernel pid (plain.living_at p.kernel pid)
      in let now_may : MayMakeLines (in_form k qs) (line_of node pid call p.reply ∷ []) =
      subst
      (λ (ws : List Wake).
      MayMakeLines (in_form k qs) (own_line node pid call (Some p.reply) ++ wait_lines k node (map woken_pair ws)))
      same.wakes
      (subst
      (λ (o : Option Reply).
      MayMakeLines (in_form k qs) (own_line node pid call o ++ wait_lines k node (map woken_pair e.wakes)))
      same.own may)
      in let now_leads : LeadInLine (in_form k qs) (line_of node pid call p.reply ∷ []) last =
      record { next = last; leads = same-line p now_may.0 does; rest = refl }
      in record {
        last = last;
        leads =
            subst
            (λ (o : Option Reply).
            LeadInLine (in_form k qs) (own_line node pid call o ++ wait_lines k node (map woken_pair e.wakes)) last)
            (sym same.own)
            (subst
            (λ (ws : List Wake).
            LeadInLine (in_form k qs)
            (own_line node pid call (Some p.reply) ++ wait_lines k node (map woken_pair ws)) last)
            (sym same.wakes) now_leads);
        alike = finished-alike e.kernel same.rows same.alike e.own p.kernel same.kernel;
        fair = fair-finished e.kernel pid call e.own same.fair;
      }

-- what is asked of the kernels
pub record InBoth (k : Kernel) (qs : Numbered plain.Process) : Type 0 where
  pub alike : RowsAlike k.processes qs
  pub fair : AllFair k.processes
  pub marks : MarksAreWaits k
  pub queues : IsRising k.queues
  pub sets : IsRising k.sets
  pub settled : NobodyCouldGoOn k

-- a refusal is the same in both
pub same-refusal : (k : Kernel) (qs : Numbered plain.Process) → InBoth k qs → (pid : ℕ) (e : Errno)
    → SameInForm k pid (refuse k e) (plain_effects.refuse (in_form k qs) e)
same-refusal k qs both pid e =
    record {
      rows = qs;
      kernel = refl;
      alike = both.alike;
      own = refl;
      wakes = refl;
      fair = λ q ne. both.fair q;
      keeps = record { queues = λ id. refl; sets = λ id. refl };
    }

-- ---- who waits at a queue or a set

-- what holds of all holds of all in a weaker form
pub all-each : {A : Type 0} (P Q : A → Type 0) → ((x : A) → P x → Q x) → (xs : List A) → AllByRecursion P xs
    → AllByRecursion Q xs
all-each P Q f [] h = tt
all-each P Q f (x ∷ xs) h = (f x h.0, all-each P Q f xs h.1)

-- each who waits is found with its call
all-wait : (ws : List Waiting) → WaitOnce ws → AllByRecursion (λ w. wait_of w.pid ws ≡ Some w.call) ws
all-wait [] once = tt
all-wait (w ∷ ws) once = (
  ap (λ (b : Bool). (if b then Some w.call else wait_of w.pid ws)) (eq-same w.pid),
  all-each (λ v. wait_of v.pid ws ≡ Some v.call) (λ v. wait_of v.pid (w ∷ ws) ≡ Some v.call)
      (λ v h.
      ap (λ (b : Bool). (if b then Some w.call else wait_of v.pid ws)) (differs ws v.pid w.pid v.call h once.0) ∙ h)
      ws (all-wait ws once.1),
)

-- a mark at a name is of a call that waits there
pub record MarkedAt (pid : ℕ) (name : Name) (m : Option Call) (call : Call) : Type 0 where
  pub is : m ≡ Some call
  pub place : is_same_name name (waits_at pid call) ≡ true

marked-at : (pid : ℕ) (name : Name) (m : Option Call) (call : Call) → mark_at pid name m ≡ Some call
    → MarkedAt pid name m call
marked-at pid name None call h = not_some call h
marked-at pid name (Some c) call h = by_test (is_same_name name (waits_at pid c)) refl h
  where
    by_test : (b : Bool) → is_same_name name (waits_at pid c) ≡ b → (if b then Some c else None) ≡ Some call
        → MarkedAt pid name (Some c) call
    by_test true there is =
        record {
          is = is;
          place = subst (λ (x : Call). is_same_name name (waits_at pid x) ≡ true) (from_some c call is) there;
        }
    by_test false there is = not_some call is

-- who waits at a queue does so in a call on it
queue-fits : (pid id : ℕ) (call : Call) → is_same_name (Msg id) (waits_at pid call) ≡ true → at_queue call ≡ Some id
queue-fits pid id (calls.MsgSnd i class text nowait) h = ap Some (sym (same-from-nat_eq id i h))
queue-fits pid id (calls.MsgRcv i class size noerror nowait) h = ap Some (sym (same-from-nat_eq id i h))
queue-fits pid id call h = absurd (false≢true h)

-- a call on a set, and no count of those who wait
abbrev pub IsOnSet : ℕ → Call → Type 0
IsOnSet id call = (at_set call ≡ Some id) × (counts_waiters call ≡ false)

set-fits : (pid id : ℕ) (call : Call) → is_same_name (Sem id) (waits_at pid call) ≡ true → IsOnSet id call
set-fits pid id (calls.SemOp i steps) h = (ap Some (sym (same-from-nat_eq id i h)), refl)
set-fits pid id call h = absurd (false≢true h)

-- so it is marked with that call
pub queue-marked : (k : Kernel) → MarksAreWaits k → (id : ℕ) (q : Awaited Queue) → get k.queues id ≡ Some q
    → AllByRecursion (λ w. (mark_in k.processes w.pid ≡ Some w.call) × (at_queue w.call ≡ Some id)) q.waiters
queue-marked k marks id q there =
    all-each (λ w. wait_of w.pid q.waiters ≡ Some w.call)
    (λ w. (mark_in k.processes w.pid ≡ Some w.call) × (at_queue w.call ≡ Some id))
    (λ w h.
    (let m : MarkedAt w.pid (Msg id) (mark_in k.processes w.pid) w.call =
    marked-at w.pid (Msg id) (mark_in k.processes w.pid) w.call
    (sym (ap (wait_in w.pid) (sym there) ∙ marks.queues id w.pid) ∙ h)
    in (m.is, queue-fits w.pid id w.call m.place)))
    q.waiters (all-wait q.waiters (all-get (λ o. WaitOnce o.waiters) k.queues id q marks.queues_once there))

-- whoever waits at a set is marked with its call, and that is on this set
pub set-marked : (k : Kernel) → MarksAreWaits k → (id : ℕ) (s : Awaited SemaphoreSet) → get k.sets id ≡ Some s
    → AllByRecursion (λ w. (mark_in k.processes w.pid ≡ Some w.call) × IsOnSet id w.call) s.waiters
set-marked k marks id s there =
    all-each (λ w. wait_of w.pid s.waiters ≡ Some w.call)
    (λ w. (mark_in k.processes w.pid ≡ Some w.call) × IsOnSet id w.call)
    (λ w h.
    (let m : MarkedAt w.pid (Sem id) (mark_in k.processes w.pid) w.call =
    marked-at w.pid (Sem id) (mark_in k.processes w.pid) w.call
    (sym (ap (wait_in w.pid) (sym there) ∙ marks.sets id w.pid) ∙ h)
    in (m.is, set-fits w.pid id w.call m.place)))
    s.waiters (all-wait s.waiters (all-get (λ o. WaitOnce o.waiters) k.sets id s marks.sets_once there))
