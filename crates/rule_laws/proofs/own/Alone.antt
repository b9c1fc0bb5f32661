-- A call of a process that changes processes alone, is carried out where it starts, and has its reply at once: the
-- kernel
-- in which callers wait, the bodies, and the call's withdrawal afterwards.
use Rattle.std.proofs.Common.{◌≡◌, ◌≢◌, ℕ, ◌+◌, ◌≤◌, true, false, List, [], ◌∷◌, ◌++◌, filter, Option, Some, None, refl, ap, sym, subst, ◌∙◌, inl, arith}
use Rattle.std.proofs.lemmas.Bool.{false≢true}
use Rattle.pico_base.specs.declared.call.Call.{Call}
use Rattle.pico_base.specs.declared.numbers.Name.{Name}
use Rattle.pico_base.specs.declared.numbers.Name.TheVariants.{Proc, Msg, Sem}
use Rattle.pico_base.specs.declared.reply.Entry.{Entry}
use Rattle.pico_base.specs.declared.reply.Reply.{Reply}
use Rattle.pico_base.specs.declared.script.Script.{Script}
use Rattle.pico_base.specs.Home.{home_of}
use Rattle.number_maps.specs.Maps.{get}
use Rattle.kernel_model.specs.Effect.{reply_alone}
use Rattle.kernel_model.specs.Fitting.{Places}
use Rattle.kernel_model.specs.History.{number_in}
use Rattle.kernel_model.specs.Kernel.{Kernel, Process, living_at}
use Rattle.kernel_model.specs.Kernel as kernel
use Rattle.kernel_model.specs.Row as plain_rows
use Rattle.kernel_model.specs.Transition.{may_make, successor, transition}
use Rattle.waiting_model.specs.Calls.{may_park}
use Rattle.waiting_model.specs.Linear.{BreaksOff, Counts, Does, LeadsTo, at_once, counts_waiters}
use Rattle.waiting_laws.proofs.Leads.{StepsAlike, is_of_process, own-leads, waits_for_child}
use Rattle.entry_laws.specs.Entering.{HasHistory}
use Rattle.node_model.specs.declared.held.Held.{Held}
use Rattle.node_model.specs.Kinds.{is_object}
use Rattle.node_model.specs.Bodies.{Body, body_in, process_body, waiters_of}
use Rattle.node_model.specs.Directory.{held_for}
use Rattle.node_model.specs.Entries.{entry_by}
use Rattle.world_model.specs.Node.{Node}
use Rattle.world_model.specs.World.{World, node_count}
use Rattle.world_laws.specs.Places.{Beside}
use Rattle.world_laws.specs.Sights.{node_of, directory_of, is_born_in}
use Rattle.world_laws.specs.Names.{NameHolds, name_sight}
use Rattle.world_laws.specs.Cancels.{CancelHolds, CancelIf, Nothing, Owing, cancel_sight, is_held_cancel_of}
use Rattle.world_laws.specs.Invariant.{Holds, HoldsOwing}
use Rattle.world_laws.specs.Wholes.{HasMarks, HasWhole, WholeIf, under_way_at}
use Rattle.world_laws.proofs.Cancels.{SameCancel, next-later}
use Rattle.world_laws.proofs.Changes.{Changes}
use Rattle.world_laws.proofs.Replied.{cancel-over}
use Rattle.rule_laws.proofs.Withdrawals.{old-still}
use Rattle.rule_laws.proofs.own.Bodies.{process_bodies, process-body-is}
use Rattle.rule_laws.proofs.own.Entries.{EntryLeaves, others-go-on}
use Rattle.rule_laws.proofs.own.InWhole.{EntersAlone, has-whole-then, other-withdrawal}
use Rattle.rule_laws.proofs.own.Rebodied.{IsBodyOf, nobody-waits-in}
use Rattle.rule_laws.proofs.own.Runs.{Starts}
use Rattle.rule_laws.proofs.own.Starting.{its-process, starts-may, starts-uncancelled}

-- ---- bodies where processes alone change

nobody-at : (o : Option Process) → waiters_of (process_body o) ≡ []
nobody-at None = refl
nobody-at (Some (kernel.Living a)) = refl
nobody-at (Some (kernel.Ended ending)) = refl
nobody-at (Some kernel.Gone) = refl

module _ (script : Script) (w : World) (hand : List Held) (owes : Owing) (b : Beside)
    (holds : HoldsOwing script w hand owes b) (next : Kernel)
    (objects : (name : Name) → is_object name ≡ true → body_in next name ≡ body_in b.kernel name) where
  abbrev bodies : Name → Body
  bodies = process_bodies next b.body

  known : (name : Name) → NameHolds script b.pids (is_born_in w) name (name_sight script w hand b name)
  known name = holds.names name

  was-process : (pid : ℕ) → b.body (Proc pid) ≡ body_in b.kernel (Proc pid)
  was-process pid = process-body-is b.kernel (b.body (Proc pid)) pid (known (Proc pid)).parts

  -- each body is the next kernel's, with those who wait there
  pub process-is-body : (name : Name) → IsBodyOf script (body_in next name) (process_bodies next b.body name)
  process-is-body (Proc pid) = nobody-waits-in script next (Proc pid)
  process-is-body (Msg id) =
      record { parts = (known (Msg id)).parts ∙ sym (objects (Msg id) refl); callers = (known (Msg id)).callers }
  process-is-body (Sem id) =
      record { parts = (known (Sem id)).parts ∙ sym (objects (Sem id) refl); callers = (known (Sem id)).callers }

  -- who are the same
  pub process-waiters : (name : Name) → waiters_of (process_bodies next b.body name) ≡ waiters_of (b.body name)
  process-waiters (Proc pid) =
      nobody-at (get next.processes pid)
      ∙ sym (ap waiters_of (was-process pid) ∙ nobody-at (get b.kernel.processes pid))
  process-waiters (Msg id) = refl
  process-waiters (Sem id) = refl

  -- a name with the same part has the same body
  pub process-unchanged : (name : Name) → body_in next name ≡ body_in b.kernel name
      → process_bodies next b.body name ≡ b.body name
  process-unchanged (Proc pid) same = same ∙ sym (was-process pid)
  process-unchanged (Msg id) same = refl
  process-unchanged (Sem id) same = refl

-- ---- the call

-- a call that counts nobody who waits, and doesn't wait, does in line what it does
pub does-at-once : (k : Kernel) (e : Entry) (next : Kernel) → LeadsTo k e next → counts_waiters e.call ≡ false
    → may_park e.call ≡ false
    → transition k e.pid (at_once e.call) (number_in e.outcome.own) ≡ Some (successor next e.outcome)
does-at-once k e next (Does step) counts parks = step
does-at-once k e next (Counts n counting outcome step) counts parks = absurd (false≢true (sym counts ∙ counting))
does-at-once k e next (BreaksOff error parking broken outcome same) counts parks = absurd (false≢true (sym parks
    ∙ parking))

some-same : (a c : plain_rows.Alive) → Some a ≡ Some c → a ≡ c
some-same a c h = cc

module _ (script : Script) (w : World) (b : Beside) (holds : Holds script w [] b) (p : ℕ) (low : 1 ≤ p)
    (high : p ≤ node_count script) (s : Starts script w b p) (reply : Reply) (next : Kernel) (places : Places)
    (step : transition b.kernel (b.pids p) (at_once s.call) (number_in (Some reply))
    ≡ Some (successor next (reply_alone reply)))
    (home : is_of_process (home_of (b.pids p) s.call) ≡ true)
    (replied : waits_for_child (its-process script w b holds p low high s).alive s.call ≡ false)
    (objects : (name : Name) → is_object name ≡ true → body_in next name ≡ body_in b.kernel name)
    (leaves : EntryLeaves b.kernel b.places (b.pids p) next places) where
  abbrev n : Node
  n = node_of w p

  abbrev call : Call
  call = s.call

  whole-is : HasWhole w b
  whole-is = holds.whole

  -- it is carried out in the kernel in which callers wait, too
  pub whole-step : StepsAlike b.whole (b.pids p) call reply next
  whole-step =
      let process = its-process script w b holds p low high s
      in own-leads b.whole b.kernel next (b.pids p) process.alive call reply whole-is.sound whole-is.alike home
      process.lives (starts-may script w b holds p low high s) replied step

  abbrev entry : Entry
  entry = entry_by p (b.pids p) call reply

  -- What stands beside the world then.
  abbrev pub after_alone : Beside
  after_alone =
      record b {
        lines = b.lines ++ entry ∷ [];
        kernel = next;
        places = places;
        whole = whole-step.next;
        body = process_bodies next b.body;
      }

  -- another node has another process
  apart : (y : ℕ) → y ≢ p → b.pids y ≢ b.pids p
  apart y d e = d (sym (holds.pids.apart p y s.birth.forked (sym e)))

  module _ (w' : World) (m : Node) (c : Changes script p w w' m [] [] (entry ∷ []))
      (history : HasHistory script (b.lines ++ entry ∷ []) next places) (free : m.caller.under_way ≡ None) where
    none-now : under_way_at w' p ≡ None
    none-now = ap (λ (z : Node). z.caller.under_way) c.here ∙ free

    enters : EntersAlone w w' b after_alone p p call (Some reply)
    enters =
        record {
          step = whole-step.step;
          keeps = whole-step.keeps;
          ends_no_wait = s.due_now.not_withdrawal;
          may = λ a lives. subst (λ (z : plain_rows.Alive). may_make z call ≡ true)
              (some-same s.alive a (sym s.lives ∙ lives)) s.due_now.may;
          journal = c.journal;
          lines = refl;
          led = holds.history.legal;
          leads = history.legal;
          parts = λ name. (process-is-body script w [] Nothing b holds next objects name).parts;
          waiters = process-waiters script w [] Nothing b holds next objects;
          own_pid = refl;
          own_marks = λ a marks. subst (λ o. HasMarks (b.call p) o a) (sym none-now) marks;
          others = λ y d. inl (refl, apart y d);
          calls = λ y d same. (refl, ap (λ (z : Node). z.caller.under_way) (c.others y d));
          dead = λ y d same dead. (others-go-on b.kernel next b.places places (b.pids p) leaves (b.pids y)
              (apart y d)).dead dead;
        }

    -- It stands beside the world afterwards, also with the kernel in which callers wait.
    pub whole-alone : WholeIf Nothing w b → WholeIf Nothing w' after_alone
    whole-alone h = has-whole-then w w' b after_alone p p call (Some reply) h enters

    -- withdrawals of others hold still, where their processes' bodies are the same, or are over
    pub others-alone : (y : ℕ) → y ≢ p
        → ((a : plain_rows.Alive) → living_at next (b.pids y) ≡ Some a
        → body_in next (Proc (b.pids y)) ≡ body_in b.kernel (Proc (b.pids y)))
        → (hand hand' : List Held) (owes : Owing)
        → SameCancel (cancel_sight w hand b y) (cancel_sight w' hand' after_alone y)
        → CancelIf y owes (cancel_sight w hand b y) → CancelIf y owes (cancel_sight w' hand' after_alone y)
    others-alone y d stays hand hand' owes same h =
        other-withdrawal w w' b after_alone p p call (Some reply) whole-is enters y d refl (apart y d) stays hand hand'
        owes same h

    -- and the call has none
    pub cancel-alone : m.pid ≡ n.pid → m.caller.ticket ≡ n.caller.ticket + 1
        → ((name : Name)
        → filter (is_held_cancel_of p) (held_for (directory_of w') name)
        ≡ filter (is_held_cancel_of p) (held_for (directory_of w) name))
        → CancelHolds p Nothing (cancel_sight w' [] after_alone p)
    cancel-alone pid ticket held =
        let h : CancelHolds p Nothing (cancel_sight w [] b p) = holds.cancels p low high
        in let now : (node_of w' p).caller.ticket ≡ n.caller.ticket + 1 =
        ap (λ (z : Node). z.caller.ticket) c.here ∙ ticket
        in cancel-over p Nothing Nothing (cancel_sight w [] b p) (cancel_sight w' [] after_alone p)
        (old-still script p w w' m [] [] (entry ∷ []) c [] [] b after_alone p
        (sym (ap (λ (z : Node). z.pid) c.here ∙ pid))
        (next-later n.caller (let z : Node = node_of w' p in z.caller) (omega (arith, now))) held refl tt tt)
        (starts-uncancelled script w b holds p low high s) (inl none-now) (λ owed. absurd (false≢true owed)) h
