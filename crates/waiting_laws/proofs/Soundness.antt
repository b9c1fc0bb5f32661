-- Each entry keeps a kernel sound: its lines keep a kernel valid that is alike, in which all may make their calls.
use Rattle.std.proofs.Common.{◌≡◌, ◌↔◌, ◌∙◌, ℕ, Bool, true, false, not, ◌||◌, nat_eq, List, [], ◌∷◌, ◌++◌, Option, Some, None, Result, Ok, Err, is_some, refl, ap, sym, subst}
use Rattle.std.specs.Prelude.{if◌then◌else◌}
use Rattle.std.specs.List.Sorted.{IsStrictlySortedBy}
use Rattle.std.specs.Ordering.{nat_cmp}
use Rattle.std.specs.Option.{option_and_then, option_map}
use Rattle.std.proofs.lemmas.Bool.{and_parts}
use Rattle.pico_base.specs.declared.call.Call.{Call}
use Rattle.pico_base.specs.declared.call.Call.TheVariants as calls
use Rattle.pico_base.specs.declared.numbers.Name.{Name}
use Rattle.pico_base.specs.declared.reply.Entry.{Entry}
use Rattle.pico_base.specs.declared.reply.Errno.{Errno}
use Rattle.pico_base.specs.declared.reply.Reply.{Reply}
use Rattle.pico_base.specs.declared.reply.Reply.TheVariants.{Num}
use Rattle.pico_base.specs.declared.signal.Sig.{Sig}
use Rattle.number_maps.specs.Maps.{Numbered, get, put}
use Rattle.number_maps.specs.Rising.{IsRising}
use Rattle.number_maps.proofs.Order.{eq-same}
use Rattle.kernel_model.specs.Effect.{is_fresh}
use Rattle.kernel_model.specs.History.{number_in}
use Rattle.kernel_model.specs.Kernel as plain
use Rattle.kernel_model.specs.Queue.{Queue}
use Rattle.kernel_model.specs.Row.{Allowance, Free, One, Spent}
use Rattle.kernel_model.specs.Row as plain_rows
use Rattle.kernel_model.specs.SemaphoreSet.{SemaphoreSet, new_set}
use Rattle.kernel_model.specs.Transition as plain_steps
use Rattle.kernel_model.specs.Transition.{is_spent}
use Rattle.kernel_model.specs.Valid.{IsValid, IsValidProcess}
use Rattle.kernel_laws.specs.Processes.{NoneListsItself}
use Rattle.kernel_laws.proofs.EntryLaws.{entries_keep_validity_lemma}
use Rattle.kernel_laws.proofs.Families.{living-ended, living-gone, same-alive}
use Rattle.kernel_laws.proofs.Lists.{all-both}
use Rattle.kernel_laws.proofs.People.{from-living as plain-from-living}
use Rattle.kernel_laws.proofs.Plain.{from_some, not_some, not_true}
use Rattle.waiting_model.specs.Calls.{withdrawn_from}
use Rattle.waiting_model.specs.Waiters.{Awaited, waiter}
use Rattle.waiting_model.specs.Marks.{Alive, after_reply, plain_alive}
use Rattle.waiting_model.specs.Kernel.{Kernel, Process, Living, Ended, Gone, alive_in, living_at}
use Rattle.waiting_model.specs.Effect.{Effect, outcome_of_effect}
use Rattle.waiting_model.specs.ProcessCalls.{fork_effect}
use Rattle.waiting_model.specs.QueueCalls.{get_queue, get_queue_at, new_queue}
use Rattle.waiting_model.specs.SetCalls.{get_set, get_set_at, new_set_of}
use Rattle.waiting_model.specs.Linear.{LeadInLine, LeadsTo, Does, Counts, BreaksOff}
use Rattle.waiting_model.specs.Plain.{each, plain_kernel, plain_process}
use Rattle.waiting_model.specs.Transition.{Successor, effect, finish_call, may_make, successor, transition, unparked, withdrawn}
use Rattle.waiting_laws.specs.InLine.{AlikeAt, AlikeProcess, IsAlike}
use Rattle.waiting_laws.specs.Lines.{MayMakeLine, MayMakeLines, marked_line, own_line, wait_line, wait_lines}
use Rattle.waiting_laws.specs.Parked.{mark_in}
use Rattle.waiting_laws.specs.Settled.{NobodyCouldGoOn}
use Rattle.waiting_laws.specs.Sound.{EntriesKeepSoundness, IsSound}
use Rattle.waiting_laws.specs.Woken.{woken_in}
use Rattle.waiting_laws.proofs.Entries.{entry-fine}
use Rattle.waiting_laws.proofs.Fair.{AllFair}
use Rattle.waiting_laws.proofs.GoingOn.{or-true}
use Rattle.waiting_laws.proofs.LinesLead.{BeginAlike, LeadsFairly, call-leads}
use Rattle.waiting_laws.proofs.MarkMoves.{left-processes}
use Rattle.waiting_laws.proofs.Maps.{get-each, keys-each, rising-each}
use Rattle.waiting_laws.proofs.Marked.{Fine}
use Rattle.waiting_laws.proofs.RemovalLines.{left-form}
use Rattle.waiting_laws.proofs.Rows.{LivesAlike, RowsAlike, alike-form, alike-living, form-alike, in_form}
use Rattle.waiting_laws.proofs.Settled.{entries-settle}
use Rattle.waiting_laws.proofs.SoundFine.{plain-lives, sound-fine}
use Rattle.waiting_laws.proofs.Steps.{Leaves, Makes, leaves, makes, step-is}
use Rattle.waiting_laws.proofs.Transitions.{same-processes}
use Rattle.waiting_laws.proofs.ValidRows.{SameRowAt, alone-rows, valid-rows}
use Rattle.waiting_laws.proofs.Woken.{can_wait, woken-wait}

-- ---- lines keep validity

-- valid, and nobody lists itself
pub record BothValid (k : plain.Kernel) : Type 0 where
  pub valid : IsValid k
  pub alone : NoneListsItself k

line-valid : (k next : plain.Kernel) (e : Entry) → BothValid k → LeadsTo k e next → BothValid next
line-valid k next e b (Does step) =
    let h = entries_keep_validity_lemma k next e.pid _ _ e.outcome b.valid b.alone step
    in record { valid = h.0; alone = h.1 }
line-valid k next e b (Counts n counts outcome step) =
    let h = entries_keep_validity_lemma k next e.pid e.call 0 _ b.valid b.alone step
    in record { valid = h.0; alone = h.1 }
line-valid k next e b (BreaksOff error may breaks outcome is) = subst BothValid (sym is) b

-- one after another
pub lines-valid : (lines : List Entry) (k last : plain.Kernel) → BothValid k → LeadInLine k lines last → BothValid last
lines-valid [] k last b h = subst BothValid h b
lines-valid (l ∷ lines) k last b h = lines-valid lines h.next last (line-valid k h.next l b h.leads) h.rest

-- ---- an alike kernel in which all may act

abbrev lively_allowance : Alive → Allowance
lively_allowance a = if is_some a.row.signals.doom then One else a.marks.allowance

abbrev lively : Process → plain.Process
lively (Living a) = plain.Living (record { row = a.row; allowance = lively_allowance a })
lively (Ended ending) = plain.Ended ending
lively Gone = plain.Gone

undoomed-lively : (d : Option Sig) (al : Allowance) → d ≡ None → al ≡ (if is_some d then One else al)
undoomed-lively None al h = refl
undoomed-lively (Some g) al h = absurd (cc)

lively-alike : (x : Process) → AlikeProcess x (lively x)
lively-alike (Living a) = (refl, undoomed-lively a.row.signals.doom a.marks.allowance)
lively-alike (Ended ending) = refl
lively-alike Gone = tt

module _ (k : Kernel) (sound : IsSound k) where
  abbrev rows : Numbered plain.Process
  rows = each lively k.processes

  abbrev other : plain.Kernel
  other = in_form k rows

  rows-alike : RowsAlike k.processes rows
  rows-alike pid =
      subst (λ (o : Option plain.Process). AlikeAt (get k.processes pid) o) (sym (get-each lively k.processes pid))
      (at_process (get k.processes pid))
    where
      at_process : (o : Option Process) → AlikeAt o (option_map lively o)
      at_process None = tt
      at_process (Some x) = lively-alike x

  fair-lively : (d : Option Sig) (al : Allowance) → ((d ≡ None) ↔ (al ≡ Free))
      → (d ≡ None) ↔ ((if is_some d then One else al) ≡ Free)
  fair-lively None al h = h
  fair-lively (Some g) al h = (λ none. absurd (cc), λ free. absurd (let one : One ≡ Free = free in cc))

  same-rows : (pid : ℕ) → SameRowAt (get (plain_kernel k).processes pid) (get rows pid)
  same-rows pid =
      subst (λ (o : Option plain.Process). SameRowAt o (get rows pid)) (sym (get-each plain_process k.processes pid))
      (subst (λ (o : Option plain.Process). SameRowAt (option_map plain_process (get k.processes pid)) o)
      (sym (get-each lively k.processes pid)) (at_process (get k.processes pid) refl))
    where
      at_process : (o : Option Process) → get k.processes pid ≡ o
          → SameRowAt (option_map plain_process o) (option_map lively o)
      at_process None there = tt
      at_process (Some (Living a)) there =
          let v : IsValidProcess (plain_kernel k) pid (plain_alive a) =
          sound.valid.alive pid (plain_alive a)
          (plain-lives k sound pid a (ap (option_and_then alive_in) there))
          in (refl, fair-lively a.row.signals.doom a.marks.allowance v.allowed)
      at_process (Some (Ended ending)) there = refl
      at_process (Some Gone) there = tt

  other-valid : BothValid other
  other-valid =
      record {
        valid =
            valid-rows (plain_kernel k) sound.valid rows same-rows (rising-each lively k.processes sound.processes);
        alone = alone-rows (plain_kernel k) sound.valid rows same-rows sound.alone;
      }

  -- nobody has had its last turn
  unspent : (pid : ℕ) (b : plain_rows.Alive) → plain.living_in rows pid ≡ Some b → is_spent b.allowance ≡ false
  unspent pid b lives =
      at_process (get k.processes pid) refl
      (sym (get-each lively k.processes pid) ∙ plain-from-living rows pid b lives)
    where
      by_doom : (d : Option Sig) (al : Allowance) → (d ≡ None → al ≡ Free)
          → is_spent (if is_some d then One else al) ≡ false
      by_doom None al h = ap is_spent (h refl)
      by_doom (Some g) al h = refl

      at_process : (o : Option Process) → get k.processes pid ≡ o → option_map lively o ≡ Some (plain.Living b)
          → is_spent b.allowance ≡ false
      at_process None there is = not_some _ is
      at_process (Some (Living a)) there is =
          let v : IsValidProcess (plain_kernel k) pid (plain_alive a) =
          sound.valid.alive pid (plain_alive a) (plain-lives k sound pid a (ap (option_and_then alive_in) there))
          in subst (λ (x : plain_rows.Alive). is_spent x.allowance ≡ false) (same-alive _ b (from_some _ _ is))
          (by_doom a.row.signals.doom a.marks.allowance v.allowed.0)
      at_process (Some (Ended ending)) there is = living-ended b ending (sym (from_some _ _ is))
      at_process (Some Gone) there is = living-gone b (sym (from_some _ _ is))

-- ---- who may make its call

-- with the same row, who isn't spent
may-as : (call : Call) (x y : plain_rows.Alive) → x.row ≡ y.row → is_spent y.allowance ≡ false
    → plain_steps.may_make x call ≡ true → plain_steps.may_make y call ≡ true
may-as (calls.Killed sig) x y row free may =
    ap (λ (r : plain_rows.Row). plain_steps.is_doomed_by r.signals.doom sig) (sym row) ∙ may
may-as call x y row free may = ap not free

-- a call in a form that may have to wait
may-wait : (call : Call) (y : plain_rows.Alive) → can_wait call ≡ true → is_spent y.allowance ≡ false
    → plain_steps.may_make y call ≡ true
may-wait (calls.WaitPid child nohang) y can free = ap not free
may-wait (calls.MsgSnd id class text nowait) y can free = ap not free
may-wait (calls.MsgRcv id class size noerror nowait) y can free = ap not free
may-wait (calls.SemOp id steps) y can free = ap not free
may-wait call y can free = not_true can

module _ (k : Kernel) (sound : IsSound k) (node : ℕ) where
  own-may : (pid : ℕ) (a : Alive) → living_at k pid ≡ Some a → (call : Call) → may_make a call ≡ true
      → (own : Option Reply) → MayMakeLines (other k sound) (own_line node pid call own)
  own-may pid a lives call may None = tt
  own-may pid a lives call may (Some reply) = (
    λ b living.
        (let o : LivesAlike (get (rows k sound) pid) a =
        alike-living k.processes (rows k sound) (rows-alike k sound) pid a lives
        in let same : o.alive ≡ b =
        from_some o.alive b (sym (ap (option_and_then plain.alive_in) o.is) ∙ living)
        in may-as call (plain_alive a) b (o.alike.0 ∙ ap (λ (x : plain_rows.Alive). x.row) same)
        (unspent k sound pid b living)
        (and_parts (not (is_some a.marks.parked)) (plain_steps.may_make (plain_alive a) call) may).1),
    tt,
  )

  one-may : (q : ℕ) (m : Option Call) (reply : Reply) → ((c : Call) → m ≡ Some c → can_wait c ≡ true)
      → MayMakeLines (other k sound) (marked_line node q m reply)
  one-may q None reply can = tt
  one-may q (Some call) reply can =
      (λ b living. may-wait call b (can call refl) (unspent k sound q b living), tt)

  woken-may : (woken : List (ℕ × Reply))
      → ((q : ℕ) (c : Call) → woken_in q woken ≡ true → mark_in k.processes q ≡ Some c → can_wait c ≡ true)
      → MayMakeLines (other k sound) (wait_lines k node woken)
  woken-may [] can = tt
  woken-may (w ∷ woken) can =
      all-both (MayMakeLine (other k sound)) (wait_line k node w) (wait_lines k node woken)
      (one-may w.0 (mark_in k.processes w.0) w.1
      (λ c is. can w.0 c (ap (λ (b : Bool). b || woken_in w.0 woken) (eq-same w.0)) is))
      (woken-may woken (λ q c h is. can q c (or-true (nat_eq q w.0) (woken_in q woken) h) is))

-- ---- the kernel afterwards

module _ (next : Kernel) (last : plain.Kernel) (alike : IsAlike next last) (fair : AllFair next.processes)
    (b : BothValid last) where
  last-rows : (pid : ℕ) → SameRowAt (get last.processes pid) (get (each plain_process next.processes) pid)
  last-rows pid =
      subst (λ (o : Option plain.Process). SameRowAt (get last.processes pid) o)
      (sym (get-each plain_process next.processes pid))
      (at_both (get next.processes pid) refl (get last.processes pid) refl (alike.processes pid))
    where
      at_both : (o : Option Process) → get next.processes pid ≡ o → (p : Option plain.Process)
          → get last.processes pid ≡ p → AlikeAt o p → SameRowAt p (option_map plain_process o)
      at_both None there None is h = tt
      at_both None there (Some y) is h = absurd h
      at_both (Some x) there None is h = absurd h
      at_both (Some (Living a)) there (Some (plain.Living c)) is h =
          let v : IsValidProcess last pid c = b.valid.alive pid c (ap (option_and_then plain.alive_in) is)
          in (
            sym h.0,
            (
              λ none. h.1 none ∙ v.allowed.0 (ap (λ (r : plain_rows.Row). r.signals.doom) (sym h.0) ∙ none),
              λ free. fair pid a (ap (option_and_then alive_in) there) free,
            ),
          )
      at_both (Some (Living a)) there (Some (plain.Ended ending)) is h = absurd h
      at_both (Some (Living a)) there (Some plain.Gone) is h = absurd h
      at_both (Some (Ended ending)) there (Some (plain.Living c)) is h = absurd h
      at_both (Some (Ended ending)) there (Some (plain.Ended other_ending)) is h = sym h
      at_both (Some (Ended ending)) there (Some plain.Gone) is h = absurd h
      at_both (Some Gone) there (Some (plain.Living c)) is h = absurd h
      at_both (Some Gone) there (Some (plain.Ended ending)) is h = absurd h
      at_both (Some Gone) there (Some plain.Gone) is h = tt

  -- it is valid without those who wait, as the alike one is
  next-valid : IsRising next.processes → BothValid (plain_kernel next)
  next-valid rising =
      let form : in_form next last.processes ≡ last = alike-form next last alike
      in let here : BothValid (in_form next last.processes) = subst BothValid (sym form) b
      in record {
        valid =
            valid-rows (in_form next last.processes) here.valid (each plain_process next.processes) last-rows
            (rising-each plain_process next.processes rising);
        alone =
            alone-rows (in_form next last.processes) here.valid (each plain_process next.processes) last-rows
            here.alone;
      }

-- a map is in order where its values' map is
rising-from : {A B : Type 0} (f : A → B) (m : Numbered A) → IsRising (each f m) → IsRising m
rising-from f m r = subst (λ (ks : List ℕ). IsStrictlySortedBy nat_cmp ks) (keys-each f m) r

-- and with what else holds of it, it is sound
now-sound : (next : Kernel) → Fine next → NobodyCouldGoOn next → BothValid (plain_kernel next) → IsSound next
now-sound next fine settled b =
    record {
      valid = b.valid;
      alone = b.alone;
      processes = fine.people.rising;
      queues = rising-from (λ (q : Awaited Queue). q.state) next.queues b.valid.queues;
      sets = rising-from (λ (s : Awaited SemaphoreSet). s.state) next.sets b.valid.sets;
      marks = fine.marks;
      waits = λ pid a child nohang lives parked. fine.people.patient pid a lives child nohang parked;
      settled = settled;
    }

-- ---- an entry is the same with the number in its reply

number-made : (b : Bool) (made e : Effect) (n : ℕ) → made.own ≡ Some (Num n) → (if b then Some made else None) ≡ Some e
    → number_in e.own ≡ n
number-made true made e n own is = ap (λ (x : Effect). number_in x.own) (sym (from_some made e is)) ∙ ap number_in own
number-made false made e n own is = not_some e is

queue-again : (k : Kernel) (keys : ℕ → Numbered ℕ) (n : ℕ) (e : Effect) → new_queue k (keys n) n ≡ Some e
    → new_queue k (keys (number_in e.own)) (number_in e.own) ≡ Some e
queue-again k keys n e is =
    subst (λ (m : ℕ). new_queue k (keys m) m ≡ Some e) (sym (number-made (is_fresh k.used_queues n) _ e n refl is)) is

bound-queue : (k : Kernel) (key : ℕ) (create excl : Bool) (n : ℕ) (o : Option ℕ) (e : Effect)
    → get_queue_at k key create excl n o ≡ Some e → get_queue_at k key create excl (number_in e.own) o ≡ Some e
bound-queue k key create excl n (Some id) e is = is
bound-queue k key true excl n None e is = queue-again k (λ m. put k.queue_keys key m) n e is
bound-queue k key false excl n None e is = is

queue-got : (k : Kernel) (key : Option ℕ) (create excl : Bool) (n : ℕ) (e : Effect)
    → get_queue k key create excl n ≡ Some e → get_queue k key create excl (number_in e.own) ≡ Some e
queue-got k None create excl n e is = queue-again k (λ m. k.queue_keys) n e is
queue-got k (Some key) create excl n e is = bound-queue k key create excl n (get k.queue_keys key) e is

set-again : (k : Kernel) (keys : ℕ → Numbered ℕ) (n : ℕ) (r : Result SemaphoreSet Errno) (e : Effect)
    → new_set_of k (keys n) n r ≡ Some e → new_set_of k (keys (number_in e.own)) (number_in e.own) r ≡ Some e
set-again k keys n (Err error) e is = is
set-again k keys n (Ok set) e is =
    subst (λ (m : ℕ). new_set_of k (keys m) m (Ok set) ≡ Some e)
    (sym (number-made (is_fresh k.used_sets n) _ e n refl is)) is

bound-set : (k : Kernel) (key count : ℕ) (create excl : Bool) (n : ℕ) (o : Option ℕ) (e : Effect)
    → get_set_at k key count create excl n o ≡ Some e
    → get_set_at k key count create excl (number_in e.own) o ≡ Some e
bound-set k key count create excl n (Some id) e is = is
bound-set k key count true excl n None e is = set-again k (λ m. put k.set_keys key m) n (new_set count) e is
bound-set k key count false excl n None e is = is

set-got : (k : Kernel) (key : Option ℕ) (count : ℕ) (create excl : Bool) (n : ℕ) (e : Effect)
    → get_set k key count create excl n ≡ Some e → get_set k key count create excl (number_in e.own) ≡ Some e
set-got k None count create excl n e is = set-again k (λ m. k.set_keys) n (new_set count) e is
set-got k (Some key) count create excl n e is = bound-set k key count create excl n (get k.set_keys key) e is

-- a call that makes something has its number, and no other looks at one
effect-number : (k : Kernel) (pid : ℕ) (a : Alive) (call : Call) (n : ℕ) (e : Effect)
    → effect k (waiter pid call) a n ≡ Some e → effect k (waiter pid call) a (number_in e.own) ≡ Some e
effect-number k pid a (calls.Fork block) n e is =
    subst (λ (m : ℕ). fork_effect k pid a m ≡ Some e) (sym (number-made (is_fresh k.used_processes n) _ e n refl is)) is
effect-number k pid a (calls.MsgGet key create excl) n e is = queue-got k key create excl n e is
effect-number k pid a (calls.SemGet key count create excl) n e is = set-got k key count create excl n e is
effect-number k pid a call n e is = is

-- so it is of each result
step-number : (k : Kernel) (pid : ℕ) (call : Call) (n : ℕ) (s : Successor) → withdrawn_from call ≡ None
    → Makes k pid call n s → transition k pid call (number_in s.outcome.own) ≡ Some s
step-number k pid call n s plain_call m =
    let e : Effect = m.step
    in let done : Successor = successor (finish_call e.kernel pid call e.own) (outcome_of_effect e)
    in subst (λ (t : Successor). transition k pid call (number_in t.outcome.own) ≡ Some t) m.is
    (step-is k pid call (number_in e.own) m.alive e plain_call m.lives m.may
    (effect-number k pid m.alive call n e m.does))

-- ---- entries

call-valid : (k : Kernel) → IsSound k → (pid : ℕ) (call : Call) (n : ℕ) (s : Successor) → withdrawn_from call ≡ None
    → transition k pid call n ≡ Some s → IsRising s.kernel.processes → BothValid (plain_kernel s.kernel)
call-valid k sound pid call n s plain_call step rising =
    let m : Makes k pid call n s = makes k pid call n s plain_call step
    in let lines : List Entry = own_line 0 pid call s.outcome.own ++ wait_lines k 0 s.outcome.woken
    in let may : MayMakeLines (other k sound) lines =
    all-both (MayMakeLine (other k sound)) (own_line 0 pid call s.outcome.own) (wait_lines k 0 s.outcome.woken)
    (own-may k sound 0 pid m.alive m.lives call m.may s.outcome.own)
    (woken-may k sound 0 s.outcome.woken (woken-wait k (sound-fine k sound) pid call n s step plain_call))
    in let begin : BeginAlike k (other k sound) =
    record {
      sound = sound;
      alike = form-alike k (rows k sound) (rows-alike k sound);
      rising = rising-each lively k.processes sound.processes;
    }
    in let h : LeadsFairly (other k sound) lines s.kernel =
    call-leads k (other k sound) begin 0 pid call s.outcome s.kernel plain_call
    (step-number k pid call n s plain_call m)
    may
    in next-valid s.kernel h.last h.alike h.fair
    (lines-valid lines (other k sound) h.last (other-valid k sound) h.leads) rising

-- a withdrawal changes nothing of the kernel without those who wait
withdrawn-form : (k : Kernel) → IsSound k → (pid : ℕ) (name : Name)
    → plain_kernel (withdrawn k pid name) ≡ plain_kernel k
withdrawn-form k sound pid name =
    let left : Kernel = unparked k pid name
    in ap (in_form (withdrawn k pid name))
    (same-processes left.processes pid after_reply (λ a. refl)
    ∙ ap (each plain_process) (left-processes k pid name))
    ∙ left-form k (each plain_process k.processes) sound.queues sound.sets pid name

withdrawal-valid : (k : Kernel) → IsSound k → (pid : ℕ) (name : Name) (s : Successor) → Leaves k pid name s
    → BothValid (plain_kernel s.kernel)
withdrawal-valid k sound pid name s l =
    subst (λ (t : Successor). BothValid (plain_kernel t.kernel)) l.is
    (subst BothValid (sym (withdrawn-form k sound pid name)) (record { valid = sound.valid; alone = sound.alone }))

entry-valid : (k : Kernel) → IsSound k → (pid : ℕ) (call : Call) (n : ℕ) (s : Successor)
    → transition k pid call n ≡ Some s → IsRising s.kernel.processes → BothValid (plain_kernel s.kernel)
entry-valid k sound pid (calls.Withdraw name) n s step rising =
    withdrawal-valid k sound pid name s (leaves k pid name n s step)
entry-valid k sound pid call n s step rising = call-valid k sound pid call n s refl step rising

-- each entry
pub entries-keep-soundness : EntriesKeepSoundness
entries-keep-soundness k pid call n s sound step =
    let fine : Fine s.kernel = entry-fine k (sound-fine k sound) pid call n s step
    in now-sound s.kernel fine (entries-settle k pid call n s sound.settled step)
    (entry-valid k sound pid call n s step fine.people.rising)
