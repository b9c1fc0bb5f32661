-- An entry of the kernel in which callers wait, and its lines in the one in which nobody does.
use Rattle.std.proofs.Common.{◌≡◌, ◌∙◌, ℕ, Bool, true, false, List, ◌++◌, map, Option, Some, None, refl, ap, sym, subst}
use Rattle.std.specs.Prelude.{if◌then◌else◌, ◌==◌, ◌%◌}
use Rattle.std.specs.Option.{option_and_then}
use Rattle.std.proofs.lemmas.Bool.{and_parts}
use Rattle.pico_base.specs.declared.call.Call.{Call}
use Rattle.pico_base.specs.declared.call.Call.TheVariants as calls
use Rattle.pico_base.specs.declared.call.Home.TheVariants as homes
use Rattle.pico_base.specs.Home.{home_of, home_of_get}
use Rattle.pico_base.specs.declared.numbers.Name.{Name}
use Rattle.pico_base.specs.declared.numbers.Name.TheVariants.{Proc}
use Rattle.pico_base.specs.declared.reply.Ending.{Ending}
use Rattle.pico_base.specs.declared.reply.Ending.TheVariants as endings
use Rattle.pico_base.specs.declared.reply.Entry.{Entry}
use Rattle.pico_base.specs.declared.reply.Errno.TheVariants.{Eintr}
use Rattle.pico_base.specs.declared.reply.Outcome.{Outcome}
use Rattle.pico_base.specs.declared.reply.Reply.TheVariants as replies
use Rattle.pico_base.specs.declared.signal.SigArg.{SigArg}
use Rattle.pico_base.specs.declared.signal.SigArg.TheVariants.{Zero, Is, Bad}
use Rattle.number_maps.specs.Maps.{Numbered, get}
use Rattle.number_maps.specs.Rising.{IsRising}
use Rattle.kernel_model.specs.Effect as plain_effects
use Rattle.kernel_model.specs.Effect.{reply_alone}
use Rattle.kernel_model.specs.History.{number_in}
use Rattle.kernel_model.specs.Kernel as plain
use Rattle.kernel_model.specs.ProcessCalls as plain_calls
use Rattle.kernel_model.specs.Row.{Waited, Found, NotYet, NoChild, wait}
use Rattle.kernel_model.specs.Row as plain_rows
use Rattle.kernel_model.specs.Transition as plain_steps
use Rattle.kernel_laws.proofs.Plain.{from_some, not_some, not_true}
use Rattle.waiting_model.specs.Calls.{withdrawn_from}
use Rattle.waiting_model.specs.Waiters.{waiter}
use Rattle.waiting_model.specs.Marks.{Alive, is_parked_at}
use Rattle.waiting_model.specs.Kernel.{Kernel, living_at}
use Rattle.waiting_model.specs.Effect.{Effect, outcome_of_effect, park, woken_pair}
use Rattle.waiting_model.specs.ProcessCalls.{reap_child}
use Rattle.waiting_model.specs.Linear.{LeadInLine, BreaksOff, at_once}
use Rattle.waiting_model.specs.Transition.{Successor, effect, finish_call, successor, transition, withdrawn}
use Rattle.waiting_laws.specs.InLine.{IsAlike}
use Rattle.waiting_laws.specs.Lines.{EntriesLeadInLine, MayMakeLines, OnlyWaitsPark, lines_by, marked_line, own_line, wait_line, wait_lines, withdrawn_line}
use Rattle.waiting_laws.specs.Parked.{mark_in, mark_of}
use Rattle.waiting_laws.specs.Sound.{IsSound}
use Rattle.waiting_laws.specs.Woken.{WakesRightly, WokenOnce, woken_in}
use Rattle.waiting_laws.proofs.EndLines.{MayEndIn, end-in-line}
use Rattle.waiting_laws.proofs.Fair.{AllFair, fair-finished}
use Rattle.waiting_laws.proofs.OwnLines.{BothInForm, SameInForm, Stands, is_not_yet, is_of_process, own-effects, waits_for_child, with_row}
use Rattle.waiting_laws.proofs.QueueLines.{queue-in-line}
use Rattle.waiting_laws.proofs.RemovalLines.{left-alike, left-fair, queue-removal-in-line, set-removal-in-line}
use Rattle.waiting_laws.proofs.Rows.{LivesAlike, RowsAlike, alike-finished, alike-form, alike-living, in_form}
use Rattle.waiting_laws.proofs.SetLines.{set-in-line}
use Rattle.waiting_laws.proofs.SoundFine.{sound-both, sound-fair, sound-fine, sound-one}
use Rattle.waiting_laws.proofs.Standing.{InBoth, StandsInLine, stands-same}
use Rattle.waiting_laws.proofs.Steps.{Leaves, Makes, leaves, makes}
use Rattle.waiting_laws.proofs.Woken.{acts-by, entry-wakes}

-- ---- where the calls are

process-home : (b : Bool) (pid : ℕ) → is_of_process (if b then homes.Own else homes.At (Proc pid)) ≡ true
process-home true pid = refl
process-home false pid = refl

-- a kill is made at its caller or its target, never at a queue or a set
pub kill-home : (pid target : ℕ) (sig : SigArg) → is_of_process (home_of pid (calls.Kill target sig)) ≡ true
kill-home pid target Bad = refl
kill-home pid target Zero = process-home (target == pid) target
kill-home pid target (Is sig) = process-home (target == pid) target

-- a get, with or without a key, is made at no queue and no set
pub get-home : (key : Option ℕ) → is_of_process (home_of_get key) ≡ true
get-home None = refl
get-home (Some key) = refl

-- ---- the calls

-- what both have
pub record BothHave (k : Kernel) (caller : ℕ) (e : Effect) (y : Option plain_effects.Effect) : Type 0 where
  pub other : plain_effects.Effect
  pub is : y ≡ Some other
  pub same : SameInForm k caller e other

-- an effect in the one kernel has its like in the other
pub both-have : (k : Kernel) (caller : ℕ) (x : Option Effect) (y : Option plain_effects.Effect)
    → BothInForm k caller x y
    → (e : Effect) → x ≡ Some e → BothHave k caller e y
both-have k caller None None h e is = not_some e is
both-have k caller None (Some p) h e is = absurd h
both-have k caller (Some d) None h e is = absurd h
both-have k caller (Some d) (Some p) h e is =
    record {
      other = p;
      is = refl;
      same = subst (λ (x : Effect). SameInForm k caller x p) (from_some d e is) h;
    }

module _ (k : Kernel) (sound : IsSound k) (qs : Numbered plain.Process) (alike : RowsAlike k.processes qs)
    (rising : IsRising qs) (node pid : ℕ) (a : Alive) (lives : living_at k pid ≡ Some a)
    (unparked : a.marks.parked ≡ None) where
  both : InBoth k qs
  both = sound-both k sound qs alike

  stands : Stands k qs pid
  stands =
      let fine = sound-fine k sound
      in record {
        alike = alike;
        fair = λ q ne. both.fair q;
        queues = fine.unused_queues;
        sets = fine.unused_sets;
      }

  abbrev Leads : Call → Effect → Type 0
  Leads call e =
      MayMakeLines (in_form k qs) (own_line node pid call e.own ++ wait_lines k node (map woken_pair e.wakes))
      → StandsInLine k (in_form k qs) node pid call e

  own-line : (call : Call) (n : ℕ) (e : Effect) → is_of_process (home_of pid call) ≡ true
      → waits_for_child a call ≡ false → effect k (waiter pid call) a n ≡ Some e → n ≡ number_in e.own → Leads call e
  own-line call n e home found does number may =
      let other : LivesAlike (get qs pid) a = alike-living k.processes qs alike pid a lives
      in let its : plain_rows.Alive = with_row a.row other.alive.allowance
      in let living : plain.living_in qs pid ≡ Some its =
      ap (option_and_then plain.alive_in) other.is
      ∙ ap (λ row. (let o : Option plain_rows.Alive = Some (with_row row other.alive.allowance) in o))
      (sym other.alike.0)
      in let h : BothHave k pid e (plain_steps.effect (in_form k qs) pid its (at_once call) n) =
      both-have k pid (effect k (waiter pid call) a n) (plain_steps.effect (in_form k qs) pid its (at_once call) n)
      (own-effects k qs pid stands a other.alive.allowance other.alike.1 call n home found) e does
      in stands-same k qs node pid call its living e h.other h.same may
      (subst (λ (m : ℕ). plain_steps.effect (in_form k qs) pid its (at_once call) m ≡ Some h.other)
      (number ∙ ap number_in h.same.own) h.is)

  -- a `waitpid` that finds only living children parks
  parks-line : (call : Call) → Leads call (park k)
  parks-line call may =
      record {
        last = in_form k qs;
        leads = refl;
        alike = alike-finished k qs alike pid call None;
        fair = fair-finished k pid call None (λ q ne. both.fair q);
      }

  waits-line : (child : Option ℕ) (n : ℕ) (e : Effect) (w : Waited) → wait a.row.family child ≡ w
      → reap_child k pid a false w ≡ e → n ≡ number_in e.own → Leads (calls.WaitPid child false) e
  waits-line child n e NotYet found does number may =
      subst (λ (x : Effect). Leads (calls.WaitPid child false) x) does (parks-line (calls.WaitPid child false)) may
  waits-line child n e (Found c how) found does number may =
      own-line (calls.WaitPid child false) n e refl (ap is_not_yet found)
      (ap (λ (w : Waited). (let x : Option Effect = Some (reap_child k pid a false w) in x)) found
      ∙ ap (λ (x : Effect). (let o : Option Effect = Some x in o)) does)
      number may
  waits-line child n e NoChild found does number may =
      own-line (calls.WaitPid child false) n e refl (ap is_not_yet found)
      (ap (λ (w : Waited). (let x : Option Effect = Some (reap_child k pid a false w) in x)) found
      ∙ ap (λ (x : Effect). (let o : Option Effect = Some x in o)) does)
      number may

  -- what an end asks for
  may-end : (call : Call) (ending : Ending)
      → ((b : plain_rows.Alive) (n : ℕ)
      → plain_steps.effect (in_form k qs) pid b (at_once call) n
      ≡ Some (plain_calls.end_process (in_form k qs) pid b ending))
      → MayEndIn k qs pid call ending
  may-end call ending ends =
      let fine = sound-fine k sound
      in record { both = both; people = fine.people; one = sound-one k sound; rising = rising; ends = ends }

  -- each call that has an effect
  effect-in-line : (call : Call) (n : ℕ) (e : Effect) → effect k (waiter pid call) a n ≡ Some e → n ≡ number_in e.own
      → WokenOnce (map woken_pair e.wakes) → woken_in pid (map woken_pair e.wakes) ≡ false → Leads call e
  effect-in-line (calls.Fork block) n e does number once isnt =
      own-line (calls.Fork block) n e refl refl does number
  effect-in-line (calls.Exit status) n e does number once isnt =
      end-in-line k qs node pid (calls.Exit status) (endings.Exited (status % 256))
      (may-end (calls.Exit status) (endings.Exited (status % 256)) (λ b m. refl)) a lives unparked e
      (from_some _ e does)
  effect-in-line (calls.Killed sig) n e does number once isnt =
      end-in-line k qs node pid (calls.Killed sig) (endings.Killed sig)
      (may-end (calls.Killed sig) (endings.Killed sig) (λ b m. refl)) a lives unparked e (from_some _ e does)
  effect-in-line calls.GetPid n e does number once isnt = own-line calls.GetPid n e refl refl does number
  effect-in-line (calls.Kill target sig) n e does number once isnt =
      own-line (calls.Kill target sig) n e (kill-home pid target sig) refl does number
  effect-in-line (calls.SigAction sig act) n e does number once isnt =
      own-line (calls.SigAction sig act) n e refl refl does number
  effect-in-line (calls.SigProcMask how set) n e does number once isnt =
      own-line (calls.SigProcMask how set) n e refl refl does number
  effect-in-line calls.SigPending n e does number once isnt = own-line calls.SigPending n e refl refl does number
  effect-in-line (calls.Handled sig) n e does number once isnt = own-line (calls.Handled sig) n e refl refl does number
  effect-in-line (calls.WaitPid child true) n e does number once isnt =
      own-line (calls.WaitPid child true) n e refl refl does number
  effect-in-line (calls.WaitPid child false) n e does number once isnt =
      waits-line child n e (wait a.row.family child) refl (from_some _ e does) number
  effect-in-line (calls.MsgGet key create excl) n e does number once isnt =
      own-line (calls.MsgGet key create excl) n e (get-home key) refl does number
  effect-in-line (calls.MsgSnd id class text nowait) n e does number once isnt =
      queue-in-line k qs both node pid a lives (calls.MsgSnd id class text nowait) id refl e (from_some _ e does) once
      isnt
  effect-in-line (calls.MsgRcv id class size noerror nowait) n e does number once isnt =
      queue-in-line k qs both node pid a lives (calls.MsgRcv id class size noerror nowait) id refl e
      (from_some _ e does) once isnt
  effect-in-line (calls.MsgStat id) n e does number once isnt =
      queue-in-line k qs both node pid a lives (calls.MsgStat id) id refl e (from_some _ e does) once isnt
  effect-in-line (calls.MsgSet id qbytes) n e does number once isnt =
      queue-in-line k qs both node pid a lives (calls.MsgSet id qbytes) id refl e (from_some _ e does) once isnt
  effect-in-line (calls.MsgRmid id) n e does number once isnt =
      queue-removal-in-line k qs both node pid a lives id e (from_some _ e does)
  effect-in-line (calls.SemGet key count create excl) n e does number once isnt =
      own-line (calls.SemGet key count create excl) n e (get-home key) refl does number
  effect-in-line (calls.SemOp id steps) n e does number once isnt =
      set-in-line k qs both node pid a lives (calls.SemOp id steps) id refl e (from_some _ e does) once isnt
  effect-in-line (calls.SemGetVal id num) n e does number once isnt =
      set-in-line k qs both node pid a lives (calls.SemGetVal id num) id refl e (from_some _ e does) once isnt
  effect-in-line (calls.SemGetPid id num) n e does number once isnt =
      set-in-line k qs both node pid a lives (calls.SemGetPid id num) id refl e (from_some _ e does) once isnt
  effect-in-line (calls.SemGetNcnt id num) n e does number once isnt =
      set-in-line k qs both node pid a lives (calls.SemGetNcnt id num) id refl e (from_some _ e does) once isnt
  effect-in-line (calls.SemGetZcnt id num) n e does number once isnt =
      set-in-line k qs both node pid a lives (calls.SemGetZcnt id num) id refl e (from_some _ e does) once isnt
  effect-in-line (calls.SemSetVal id num value) n e does number once isnt =
      set-in-line k qs both node pid a lives (calls.SemSetVal id num value) id refl e (from_some _ e does) once isnt
  effect-in-line (calls.SemGetAll id) n e does number once isnt =
      set-in-line k qs both node pid a lives (calls.SemGetAll id) id refl e (from_some _ e does) once isnt
  effect-in-line (calls.SemSetAll id values) n e does number once isnt =
      set-in-line k qs both node pid a lives (calls.SemSetAll id values) id refl e (from_some _ e does) once isnt
  effect-in-line (calls.SemRmid id) n e does number once isnt =
      set-removal-in-line k qs both node pid a lives id e (from_some _ e does)
  effect-in-line (calls.Withdraw name) n e does number once isnt = not_some e does

-- ---- entries

-- the lines lead to a kernel that is alike, and who is doomed afterwards isn't free
pub record LeadsFairly (k : plain.Kernel) (lines : List Entry) (next : Kernel) : Type 0 where
  pub last : plain.Kernel
  pub leads : LeadInLine k lines last
  pub alike : IsAlike next last
  pub fair : AllFair next.processes

-- what is asked of both kernels
pub record BeginAlike (whole : Kernel) (k : plain.Kernel) : Type 0 where
  pub sound : IsSound whole
  pub alike : IsAlike whole k
  pub rising : IsRising k.processes

module _ (whole : Kernel) (k : plain.Kernel) (begin : BeginAlike whole k) (node pid : ℕ) where
  abbrev its_lines : Call → Outcome → List Entry
  its_lines call outcome = own_line node pid call outcome.own ++ wait_lines whole node outcome.woken

  made-lead : (call : Call) (n : ℕ) (s : Successor) → withdrawn_from call ≡ None → Makes whole pid call n s
      → WakesRightly whole pid s → n ≡ number_in s.outcome.own → MayMakeLines k (its_lines call s.outcome)
      → LeadsFairly k (its_lines call s.outcome) s.kernel
  made-lead call n s plain_call m rightly number may =
      let e : Effect = m.step
      in let done : Successor = successor (finish_call e.kernel pid call e.own) (outcome_of_effect e)
      in let is : done ≡ s = m.is
      in let form : in_form whole k.processes ≡ k = alike-form whole k begin.alike
      in let its : WakesRightly whole pid done = subst (WakesRightly whole pid) (sym is) rightly
      in let acts = acts-by whole pid m.alive call m.lives m.may
      in let stand : StandsInLine whole (in_form whole k.processes) node pid call e =
      effect-in-line whole begin.sound k.processes begin.alike.processes begin.rising node pid m.alive m.lives
      acts.unparked call n e m.does
      (number ∙ ap (λ (t : Successor). number_in t.outcome.own) (sym is)) its.once its.others
      (subst (λ (j : plain.Kernel). MayMakeLines j (its_lines call done.outcome)) (sym form)
      (subst (λ (t : Successor). MayMakeLines k (its_lines call t.outcome)) (sym is) may))
      in subst (λ (t : Successor). LeadsFairly k (its_lines call t.outcome) t.kernel) is
      (record {
        last = stand.last;
        leads = subst (λ (j : plain.Kernel). LeadInLine j (its_lines call done.outcome) stand.last) form stand.leads;
        alike = stand.alike;
        fair = stand.fair;
      })

  -- each call that ends no wait
  pub call-leads : (call : Call) (outcome : Outcome) (next : Kernel) → withdrawn_from call ≡ None
      → transition whole pid call (number_in outcome.own) ≡ Some (successor next outcome)
      → MayMakeLines k (its_lines call outcome) → LeadsFairly k (its_lines call outcome) next
  call-leads call outcome next plain_call step may =
      made-lead call (number_in outcome.own) (successor next outcome) plain_call
      (makes whole pid call (number_in outcome.own) (successor next outcome) plain_call step)
      (entry-wakes whole (sound-fine whole begin.sound) pid call (number_in outcome.own) (successor next outcome) step)
      refl may

  -- the kernel once somebody has withdrawn
  pub withdrawal-alike : (name : Name) → IsAlike (withdrawn whole pid name) k
  withdrawal-alike name =
      subst (IsAlike (withdrawn whole pid name)) (alike-form whole k begin.alike)
      (left-alike whole k.processes begin.alike.processes begin.sound.queues begin.sound.sets pid name)

  parked-call : (name : Name) (m : Option Call) → is_parked_at pid name m ≡ true → (call : Call) × (m ≡ Some call)
  parked-call name None h = not_true h
  parked-call name (Some call) h = (call, refl)

  broken-off : OnlyWaitsPark whole → (name : Name) (a : Alive) → living_at whole pid ≡ Some a
      → is_parked_at pid name a.marks.parked ≡ true
      → LeadInLine k (wait_line whole node (pid, replies.Fail Eintr)) k
  broken-off parks name a lives parked =
      let call = parked-call name a.marks.parked parked
      in let mark : mark_in whole.processes pid ≡ Some call.0 = ap mark_of lives ∙ call.1
      in subst (λ (m : Option Call). LeadInLine k (marked_line node pid m (replies.Fail Eintr)) k) (sym mark)
      (record {
        next = k;
        leads = BreaksOff Eintr (parks pid call.0 mark) refl refl refl;
        rest = refl;
      })

  -- a withdrawal
  pub withdrawal-leads : OnlyWaitsPark whole → (name : Name) (n : ℕ) (outcome : Outcome) (next : Kernel)
      → transition whole pid (calls.Withdraw name) n ≡ Some (successor next outcome)
      → LeadsFairly k (withdrawn_line whole node pid outcome.own) next
  withdrawal-leads parks name n outcome next step =
      let l : Leaves whole pid name (successor next outcome) = leaves whole pid name n (successor next outcome) step
      in subst
      (λ (t : Successor). LeadsFairly k (withdrawn_line whole node pid t.outcome.own) t.kernel)
      l.is
      (record {
        last = k;
        leads =
            broken-off parks name l.alive l.lives
            (and_parts l.alive.marks.struck (is_parked_at pid name l.alive.marks.parked) l.may).1;
        alike = withdrawal-alike name;
        fair = left-fair whole (sound-fair whole begin.sound) pid name;
      })

-- the lines of an entry, by what its call is
lead-by : (whole next : Kernel) (k : plain.Kernel) (e : Entry) → BeginAlike whole k → OnlyWaitsPark whole
    → (call : Call) → MayMakeLines k (lines_by whole e call)
    → transition whole e.pid call (number_in e.outcome.own) ≡ Some (successor next e.outcome)
    → LeadsFairly k (lines_by whole e call) next
lead-by whole next k e begin parks (calls.Withdraw name) may step =
    withdrawal-leads whole k begin e.by e.pid parks name (number_in e.outcome.own) e.outcome next step
lead-by whole next k e begin parks call may step =
    call-leads whole k begin e.by e.pid call e.outcome next refl step may

-- each entry
pub entries-lead-in-line : EntriesLeadInLine
entries-lead-in-line whole next k e sound parks alike rising may step =
    let h : LeadsFairly k (lines_by whole e e.call) next =
    lead-by whole next k e (record { sound = sound; alike = alike; rising = rising }) parks e.call may step
    in record { last = h.last; leads = h.leads; alike = h.alike }
