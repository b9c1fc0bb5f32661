-- A call on a queue or a set, and those whom it wakes, round by round: each round is a line of the kernel in which
-- nobody waits.
use Rattle.std.proofs.Common.{◌≡◌, ◌≢◌, ◌∙◌, ℕ, true, false, nat_eq, List, [], ◌∷◌, ◌++◌, map, Option, Some, None, refl, ap, sym, subst}
use Rattle.std.specs.List.{AllByRecursion}
use Rattle.std.specs.Option.{option_and_then}
use Rattle.std.proofs.lemmas.Bool.{or_parts}
use Rattle.pico_base.specs.declared.call.Call.{Call}
use Rattle.pico_base.specs.declared.reply.Entry.{Entry}
use Rattle.pico_base.specs.declared.reply.Reply.{Reply}
use Rattle.number_maps.specs.Maps.{Numbered, get}
use Rattle.number_maps.proofs.Order.{eq-same}
use Rattle.kernel_model.specs.Effect.{reply_alone}
use Rattle.kernel_model.specs.History.{number_in}
use Rattle.kernel_model.specs.Kernel as plain
use Rattle.kernel_model.specs.Row as plain_rows
use Rattle.kernel_model.specs.Transition as plain_steps
use Rattle.kernel_laws.proofs.Lists.{all-both, all-parts}
use Rattle.kernel_laws.proofs.Plain.{not_some}
use Rattle.waiting_model.specs.declared.callers.Waiting.{Waiting}
use Rattle.waiting_model.specs.declared.callers.Wake.{Wake}
use Rattle.waiting_model.specs.Waiters.{Attempt, Awaited, Carried, Try, awaited, carry_out_by, wake}
use Rattle.waiting_model.specs.Marks.{Alive}
use Rattle.waiting_model.specs.Kernel.{Kernel, Process, living_in}
use Rattle.waiting_model.specs.Effect.{woken_pair}
use Rattle.waiting_model.specs.Linear.{LeadInLine, Does, at_once, line_of}
use Rattle.waiting_laws.specs.Lines.{MayMakeLine, MayMakeLines, marked_line, own_line, wait_line, wait_lines}
use Rattle.waiting_laws.specs.Order.{WakesInOrder}
use Rattle.waiting_laws.specs.Parked.{mark_in, mark_of}
use Rattle.waiting_laws.specs.Woken.{WokenOnce, woken_in}
use Rattle.waiting_laws.proofs.Rows.{LivesAlike, RowsAlike, alike-living, rows-spent, spent_in, spent-other}

-- ---- lines one after another

pub lead-both : (xs ys : List Entry) (k m n : plain.Kernel) → LeadInLine k xs m → LeadInLine m ys n
    → LeadInLine k (xs ++ ys) n
lead-both [] ys k m n h g = subst (λ (x : plain.Kernel). LeadInLine x ys n) (sym h) g
lead-both (l ∷ xs) ys k m n h g =
    record { next = h.next; leads = h.leads; rest = lead-both xs ys h.next m n h.rest g }

-- ---- who may make their calls still

different : (a b : ℕ) → nat_eq a b ≡ false → b ≢ a
different a b h same =
    absurd
    (let here : nat_eq a b ≡ true = subst (λ (i : ℕ). nat_eq a i ≡ true) (sym same) (eq-same a)
    in let both : true ≡ false = sym here ∙ h
    in cc)

module _ (k : Kernel) (node : ℕ) (j next : plain.Kernel) (pid : ℕ)
    (same : (q : ℕ) → q ≢ pid → plain.living_at next q ≡ plain.living_at j q) where
  one-may : (q : ℕ) (m : Option Call) (reply : Reply) → q ≢ pid → MayMakeLines j (marked_line node q m reply)
      → MayMakeLines next (marked_line node q m reply)
  one-may q None reply ne h = tt
  one-may q (Some call) reply ne h = (λ a lives. h.0 a (sym (same q ne) ∙ lives), tt)

  -- all who are woken, if the process isn't one of them
  pub others-may : (woken : List (ℕ × Reply)) → woken_in pid woken ≡ false
      → MayMakeLines j (wait_lines k node woken) → MayMakeLines next (wait_lines k node woken)
  others-may [] isnt h = tt
  others-may (w ∷ woken) isnt h =
      let tests = or_parts (nat_eq pid w.0) (woken_in pid woken) isnt
      in let parts = all-parts (MayMakeLine j) (wait_line k node w) (wait_lines k node woken) h
      in all-both (MayMakeLine next) (wait_line k node w) (wait_lines k node woken)
      (one-may w.0 (mark_in k.processes w.0) w.1 (different pid w.0 tests.0) parts.0)
      (others-may woken tests.1 parts.1)

-- ---- the rounds

-- What is asked of the other kernel, which has this state of the queue or the set beside its processes: a call that
-- fits does in it at once what its try comes to.
pub record PlaysTry {T : Type 0} (try : Try T) (Fits : Call → Type 0)
    (form : Numbered plain.Process → T → plain.Kernel) : Type 0 where
  pub lives : (qs : Numbered plain.Process) (state : T) (q : ℕ)
      → plain.living_at (form qs state) q ≡ plain.living_in qs q
  pub does : (qs : Numbered plain.Process) (state : T) (pid : ℕ) (call : Call) (b : plain_rows.Alive) (n : ℕ)
      → (t : Attempt T) → Fits call → try state pid call ≡ Some t → plain.living_in qs pid ≡ Some b
      → plain_steps.may_make b call ≡ true
      → plain_steps.transition (form qs state) pid (at_once call) n
      ≡ Some (plain_steps.successor (form (spent_in qs pid (Some b)) t.state) (reply_alone t.reply))

-- a process that is marked lives
pub record LivesMarked (ps : Numbered Process) (pid : ℕ) : Type 0 where
  pub alive : Alive
  pub lives : living_in ps pid ≡ Some alive

pub lives-marked : (ps : Numbered Process) (pid : ℕ) (call : Call) → mark_in ps pid ≡ Some call → LivesMarked ps pid
lives-marked ps pid call h = by_process (living_in ps pid) refl h
  where
    by_process : (o : Option Alive) → living_in ps pid ≡ o → mark_of o ≡ Some call → LivesMarked ps pid
    by_process None lives marked = not_some call marked
    by_process (Some a) lives marked = record { alive = a; lives = lives }

module _ {T : Type 0} (try : Try T) (Fits : Call → Type 0) (form : Numbered plain.Process → T → plain.Kernel)
    (plays : PlaysTry try Fits form) (k : Kernel) (node : ℕ) where
  -- who waits is marked with its call, and that fits
  abbrev pub IsMarked : Waiting → Type 0
  IsMarked w = (mark_in k.processes w.pid ≡ Some w.call) × Fits w.call

  -- the lines lead from this state to that one
  pub record Rounds (qs : Numbered plain.Process) (state : T) (lines : List Entry) (last : T) : Type 0 where
    pub rows : Numbered plain.Process
    pub leads : LeadInLine (form qs state) lines (form rows last)
    pub alike : RowsAlike k.processes rows

  -- one line, and the others behind it
  one-line : (qs : Numbered plain.Process) → RowsAlike k.processes qs → (state : T) (pid : ℕ) (a : Alive)
      → living_in k.processes pid ≡ Some a → (call : Call) → Fits call → (t : Attempt T)
      → try state pid call ≡ Some t → MayMakeLine (form qs state) (line_of node pid call t.reply)
      → (woken : List (ℕ × Reply)) → woken_in pid woken ≡ false
      → MayMakeLines (form qs state) (wait_lines k node woken) → (last : T)
      → ((rs : Numbered plain.Process) → RowsAlike k.processes rs
      → MayMakeLines (form rs t.state) (wait_lines k node woken)
      → Rounds rs t.state (wait_lines k node woken) last)
      → Rounds qs state (line_of node pid call t.reply ∷ wait_lines k node woken) last
  one-line qs alike state pid a lives call fits t tried may woken isnt others last rest =
      let other : LivesAlike (get qs pid) a = alike-living k.processes qs alike pid a lives
      in let b : plain_rows.Alive = other.alive
      in let living : plain.living_in qs pid ≡ Some b = ap (option_and_then plain.alive_in) other.is
      in let rs : Numbered plain.Process = spent_in qs pid (Some b)
      in let r : Rounds rs t.state (wait_lines k node woken) last =
      rest rs (rows-spent k.processes qs alike pid (Some b) living)
      (others-may k node (form qs state) (form rs t.state) pid
      (λ q ne.
      plays.lives rs t.state q ∙ (spent-other qs pid (Some b) q ne ∙ sym (plays.lives qs state q)))
      woken isnt others)
      in record {
        rows = r.rows;
        leads = record {
          next = form rs t.state;
          leads =
              Does
              (plays.does qs state pid call b (number_in (Some t.reply)) t fits tried living
              (may b (plays.lives qs state pid ∙ living)));
          rest = r.leads;
        };
        alike = r.alike;
      }

  -- who is woken was marked with the call of its line
  woken-line : (qs : Numbered plain.Process) (state last : T) (w : Waiting) (reply : Reply)
      → (woken : List (ℕ × Reply)) → mark_in k.processes w.pid ≡ Some w.call
      → Rounds qs state (line_of node w.pid w.call reply ∷ wait_lines k node woken) last
      → Rounds qs state (wait_lines k node ((w.pid, reply) ∷ woken)) last
  woken-line qs state last w reply woken marked h =
      subst
      (λ (m : Option Call). Rounds qs state (marked_line node w.pid m reply ++ wait_lines k node woken) last)
      (sym marked) h

  woken-may : (j : plain.Kernel) (w : Waiting) (reply : Reply) → mark_in k.processes w.pid ≡ Some w.call
      → MayMakeLines j (wait_line k node (w.pid, reply)) → MayMakeLine j (line_of node w.pid w.call reply)
  woken-may j w reply marked h =
      let marked_may : MayMakeLines j (marked_line node w.pid (Some w.call) reply) =
      subst (λ (m : Option Call). MayMakeLines j (marked_line node w.pid m reply)) marked h
      in marked_may.0

  -- round by round
  pub rounds : (wakes : List Wake) (now last : Awaited T) → WakesInOrder try now wakes last
      → AllByRecursion IsMarked now.waiters → (qs : Numbered plain.Process) → RowsAlike k.processes qs
      → WokenOnce (map woken_pair wakes) → MayMakeLines (form qs now.state) (wait_lines k node (map woken_pair wakes))
      → Rounds qs now.state (wait_lines k node (map woken_pair wakes)) last.state
  rounds [] now last h marked qs alike once may =
      record { rows = qs; leads = ap (λ (o : Awaited T). form qs o.state) h.0; alike = alike }
  rounds (w ∷ wakes) now last h marked qs alike once may =
      let v : Waiting = h.waiter
      in let reply : Reply = h.attempt.reply
      in let before =
      all-parts IsMarked h.before (v ∷ h.behind)
      (subst (λ (ws : List Waiting). AllByRecursion IsMarked ws) h.place marked)
      in let here : IsMarked v = before.1.0
      in let lived : LivesMarked k.processes v.pid = lives-marked k.processes v.pid v.call here.0
      in let is : w ≡ wake v reply = h.is
      in let now_once : WokenOnce (map woken_pair (wake v reply ∷ wakes)) =
      subst (λ (x : Wake). WokenOnce (map woken_pair (x ∷ wakes))) is once
      in let now_may : MayMakeLines (form qs now.state) (wait_lines k node (map woken_pair (wake v reply ∷ wakes))) =
      subst (λ (x : Wake). MayMakeLines (form qs now.state) (wait_lines k node (map woken_pair (x ∷ wakes)))) is may
      in let parts =
      all-parts (MayMakeLine (form qs now.state)) (wait_line k node (v.pid, reply))
      (wait_lines k node (map woken_pair wakes)) now_may
      in subst
      (λ (x : Wake). Rounds qs now.state (wait_lines k node (map woken_pair (x ∷ wakes))) last.state)
      (sym is)
      (woken-line qs now.state last.state v reply (map woken_pair wakes) here.0
      (one-line qs alike now.state v.pid lived.alive lived.lives v.call here.1 h.attempt h.goes
      (woken-may (form qs now.state) v reply here.0 parts.0) (map woken_pair wakes) now_once.0 parts.1 last.state
      (λ rs rs_alike rs_may.
      rounds wakes (awaited h.attempt.state (h.before ++ h.behind)) last h.rest
      (all-both IsMarked h.before h.behind before.0 before.1.1) rs rs_alike now_once.1 rs_may)))

  -- the caller's own line, and then the rounds; or nothing where it parks
  pub carried-lines : (o : Awaited T) (who : Waiting) (x : Option (Attempt T)) → try o.state who.pid who.call ≡ x
      → (a : Alive) → living_in k.processes who.pid ≡ Some a → Fits who.call
      → AllByRecursion IsMarked o.waiters → (qs : Numbered plain.Process) → RowsAlike k.processes qs
      → (let c : Carried T = carry_out_by try o who x
      in ((t : Attempt T) → x ≡ Some t → WakesInOrder try (awaited t.state o.waiters) c.wakes c.object)
      → WokenOnce (map woken_pair c.wakes) → woken_in who.pid (map woken_pair c.wakes) ≡ false
      → MayMakeLines (form qs o.state)
      (own_line node who.pid who.call c.own ++ wait_lines k node (map woken_pair c.wakes))
      → Rounds qs o.state (own_line node who.pid who.call c.own ++ wait_lines k node (map woken_pair c.wakes))
      c.object.state)
  carried-lines o who None tried a lives fits marked qs alike order once isnt may =
      record { rows = qs; leads = refl; alike = alike }
  carried-lines o who (Some t) tried a lives fits marked qs alike order once isnt may =
      let c : Carried T = carry_out_by try o who (Some t)
      in one-line qs alike o.state who.pid a lives who.call fits t tried may.0 (map woken_pair c.wakes) isnt may.1
      c.object.state
      (λ rs rs_alike rs_may.
      rounds c.wakes (awaited t.state o.waiters) c.object (order t refl) marked rs rs_alike once rs_may)
