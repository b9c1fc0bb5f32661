-- What comes of a line that is held beside the one that is expected.
use Rattle.std.proofs.Common.{◌≡◌, inl, ◌∙◌, ℕ, ◌≤◌, Bool, true, false, ◌&&◌, cond, leb, List, [], ◌∷◌, ◌++◌, Option, Some, None, is_some, refl, sym, ap, subst, append_assoc, arith}
use Rattle.std.specs.Prelude.{codes, decimal, Result, Ok, Err, IfOk, OnOk}
use Rattle.std.specs.Option.{option_map_or}
use Rattle.std.proofs.lemmas.Bool.{and_from, le-leb, lt-ltb}
use Rattle.std.proofs.lemmas.Option.{same_Some}
use Rattle.pico_base.specs.declared.call.Call.{Call}
use Rattle.pico_base.specs.declared.call.Call.TheVariants as calls
use Rattle.pico_base.specs.declared.reply.Entry.{Entry}
use Rattle.pico_base.specs.declared.reply.Outcome.{Outcome}
use Rattle.pico_base.specs.declared.script.Script.{Script}
use Rattle.pico_base.specs.Options.{◌>>=◌}
use Rattle.number_maps.specs.Maps.{Numbered}
use Rattle.kernel_model.specs.History.{number_in}
use Rattle.kernel_model.specs.Numbers.{is_u32, is_between}
use Rattle.kernel_model.specs.Script.{IsSoundScript}
use Rattle.kernel_model.specs.Fitting.{due}
use Rattle.kernel_model.specs.Trace.{call_text, own_text, by_text, entry_line}
use Rattle.waiting_model.specs.Calls.{withdrawn_from}
use Rattle.waiting_model.specs.Waiters.{waiter}
use Rattle.waiting_model.specs.Marks.{Alive}
use Rattle.waiting_model.specs.Kernel.{Kernel, living_at}
use Rattle.waiting_model.specs.Transition.{Successor, successor, effect_by, may_make, outcome_of, transition, transition_by, step_by}
use Rattle.waiting_model.specs.Effect.{Effect}
use Rattle.waiting_model.specs.Fitting.{IsNext, Progress}
use Rattle.text_fields.specs.Fields.{number_at}
use Rattle.text_fields.proofs.Chains.{bind_some, chosen}
use Rattle.trace_text.specs.Expected.{EndsWith}
use Rattle.trace_text.specs.Grammar.{is_call, is_outcome, is_entry}
use Rattle.trace_text.specs.Reading.{by_at, ended_entry, entry_at, entry_if, entry_in, entry_of, has_ended, made_at, own_at, replied_at, wakes_at}
use Rattle.trace_text.specs.Totals.{tally_of}
use Rattle.trace_text.specs.declared.fault.CheckFault.{CheckFault}
use Rattle.trace_text.specs.declared.fault.CheckFault.TheVariants.{Illegal, NotATrace, NotTheScript}
use Rattle.quoted_bytes.specs.Front.{strip}
use Rattle.quoted_bytes.proofs.Strips.{strip_takes}
use Rattle.trace_text.proofs.Decimals.{number-was}
use Rattle.trace_text.proofs.EntryLaws.{entry-reads, made-again}
use Rattle.trace_check.specs.declared.cursor.Cursor.{Cursor}
use Rattle.trace_check.specs.declared.judge.Judge.{Judge}
use Rattle.pico_base.specs.declared.fault.Memory.{Memory}
use Rattle.trace_check.specs.declared.judge.lines.Told.{Told}
use Rattle.trace_check.specs.Cursors.{AreSteady, MayMake, MayMakeAt, may_come_in, moved_on, place_of, progress_of}
use Rattle.trace_check.specs.FirstFault.{SoFar, GivesFault, due_at, is_same_outcome, judge_entry, judge_made, judge_outcome, last_doom, may_come, or_fault, with_call}
use Rattle.trace_check.specs.Judging.{so_far_of, Yields}
use Rattle.trace_check.specs.Told.{HasCarried, IsBegun, IsDueAt, Judges, Stays, Tells, call_front, is_numberless, judge_text, line_with}
use Rattle.trace_check.proofs.Entries.{next-follows}
use Rattle.trace_check.proofs.JudgeLaws.{illegal, made}

-- A call that makes nothing has the same effect whatever number is chosen.

effect-numberless : (k : Kernel) (pid : ℕ) (form : Call) (a : Alive) (call : Call) (n m : ℕ)
    → is_numberless call ≡ true → effect_by k (waiter pid form) a call n ≡ effect_by k (waiter pid form) a call m
effect-numberless k pid form a (calls.Fork block) n m h = absurd (cc)
effect-numberless k pid form a (calls.Exit status) n m h = refl
effect-numberless k pid form a (calls.Killed sig) n m h = refl
effect-numberless k pid form a calls.GetPid n m h = refl
effect-numberless k pid form a (calls.Kill target sig) n m h = refl
effect-numberless k pid form a (calls.SigAction sig act) n m h = refl
effect-numberless k pid form a (calls.SigProcMask how set) n m h = refl
effect-numberless k pid form a calls.SigPending n m h = refl
effect-numberless k pid form a (calls.Handled sig) n m h = refl
effect-numberless k pid form a (calls.WaitPid child nohang) n m h = refl
effect-numberless k pid form a (calls.MsgGet key create excl) n m h = absurd (cc)
effect-numberless k pid form a (calls.MsgSnd id class text nowait) n m h = refl
effect-numberless k pid form a (calls.MsgRcv id class size noerror nowait) n m h = refl
effect-numberless k pid form a (calls.MsgStat id) n m h = refl
effect-numberless k pid form a (calls.MsgSet id qbytes) n m h = refl
effect-numberless k pid form a (calls.MsgRmid id) n m h = refl
effect-numberless k pid form a (calls.SemGet key count create excl) n m h = absurd (cc)
effect-numberless k pid form a (calls.SemOp id steps) n m h = refl
effect-numberless k pid form a (calls.SemGetVal id num) n m h = refl
effect-numberless k pid form a (calls.SemGetPid id num) n m h = refl
effect-numberless k pid form a (calls.SemGetNcnt id num) n m h = refl
effect-numberless k pid form a (calls.SemGetZcnt id num) n m h = refl
effect-numberless k pid form a (calls.SemSetVal id num value) n m h = refl
effect-numberless k pid form a (calls.SemGetAll id) n m h = refl
effect-numberless k pid form a (calls.SemSetAll id values) n m h = refl
effect-numberless k pid form a (calls.SemRmid id) n m h = refl
effect-numberless k pid form a (calls.Withdraw name) n m h = refl

plain-of : (call : Call) → is_numberless call ≡ true → withdrawn_from call ≡ None
plain-of (calls.Withdraw name) h = absurd (cc)
plain-of call h = refl

-- the kernel carries out a call that makes nothing in the same way, whatever number is chosen
pub numberless : (k : Kernel) (pid : ℕ) (call : Call) (n m : ℕ) → is_numberless call ≡ true
    → transition k pid call n ≡ transition k pid call m
numberless k pid call n m h = of (living_at k pid)
  where
    of : (o : Option Alive) → transition_by k pid call n o ≡ transition_by k pid call m o
    of None = refl
    of (Some a) =
        ap (step_by k pid call n a) (plain-of call h)
        ∙ ap (λ (e : Option Effect). cond (may_make a call) (outcome_of pid call e) None)
        (effect-numberless k pid call a call n m h)
        ∙ ap (step_by k pid call m a) (sym (plain-of call h))

-- A process that doesn't wait may make the call that is due, as far as the kernel goes.

next-is : (p : Progress) (call : Call) → is_numberless call ≡ true → p.parked ≡ false → due p.place ≡ Some call
    → IsNext p call
next-is p (calls.Withdraw name) h idle is = absurd (cc)
next-is p call h idle is = (idle, inl is)

module _ (script : Script) (sound : IsSoundScript script) (kernel : Kernel) (cursors : Numbered Cursor) (pid : ℕ)
    (call : Call) (d : IsDueAt script cursors pid call) (h : is_numberless call ≡ true) where
  pub may-make-due : MayMakeAt script cursors pid call
  may-make-due = rw d.there (of call h d.due)
    where
      of : (c : Call) → is_numberless c ≡ true → due (place_of script d.cursor) ≡ Some c → MayMake script d.cursor c
      of (calls.Withdraw name) n is = tt
      of c n is = (d.idle, ap is_some is)

  module _ (grammar : is_call script call ≡ true) (next : Kernel) (outcome : Outcome)
      (step : (n : ℕ) → transition kernel pid call n ≡ Some (successor next outcome)) where
    may-come : may_come_in script cursors pid (last_doom (living_at kernel pid)) call ≡ true
    may-come =
        let p : Progress = progress_of script d.cursor in
        let idle : p.parked ≡ false = ap is_some d.idle in
        rw d.there (next-follows script sound kernel pid 0 (successor next outcome) p call grammar (step 0)
        (next-is p call h idle d.due) (λ waits. absurd (cc)))

    -- the kernel comes to the same as the entry
    pub same-made : (other : Outcome) → AreSteady script cursors → is_same_outcome outcome other ≡ true → (line : ℕ)
        → judge_made script line (so_far_of script kernel cursors) pid call other
        ≡ Ok (so_far_of script next (moved_on script cursors pid call other))
    same-made other steady same line =
        made script line kernel cursors pid call other (last_doom (living_at kernel pid)) refl may-come steady next
        (rw (step (number_in other.own), same) refl)

    -- or to another outcome
    pub other-made : (other : Outcome) → is_same_outcome outcome other ≡ false → (line : ℕ)
        → judge_made script line (so_far_of script kernel cursors) pid call other
        ≡ Err (Illegal line (Some outcome) other)
    other-made other same line =
        illegal script line kernel cursors pid call other (last_doom (living_at kernel pid)) refl may-come
        (Illegal line (Some outcome) other) (rw (step (number_in other.own), same) refl)

-- the line that is expected is read as its entry
pub reads-expected : (script : Script) (pid : ℕ) (call : Call) (rest : List ℕ) (outcome : Outcome)
    → IsSoundScript script → pid ≤ 4294967295 → is_call script call ≡ true → (e : EndsWith outcome rest)
    → entry_in script (line_with script pid call rest)
    ≡ Some (record { pid = pid; call = call; outcome = outcome; by = e.node })
reads-expected script pid call rest outcome sound small grammar e =
    let entry : Entry = record { pid = pid; call = call; outcome = outcome; by = e.node } in
    let node : is_between 1 32 e.node ≡ true =
    and_from (leb 1 e.node) (leb e.node 32) (le-leb 1 e.node e.low) (le-leb e.node 32 e.high) in
    let there : is_entry script entry ≡ true =
    and_from (is_u32 pid) (is_call script call && (is_outcome outcome && is_between 1 32 e.node))
    (lt-ltb pid 4294967296 (omega arith))
    (and_from (is_call script call) (is_outcome outcome && is_between 1 32 e.node) grammar
    (and_from (is_outcome outcome) (is_between 1 32 e.node) e.fits node)) in
    let text : entry_line script entry ≡ line_with script pid call rest ++ 10 ∷ [] =
    ends (decimal pid) (call_text script call) (own_text outcome.own) (by_text e.node outcome.woken) rest e.text in
    entry-reads script (line_with script pid call rest) entry sound there text
  where
    ends : (p c own by rest : List ℕ) → own ++ by ≡ rest ++ 10 ∷ []
        → (p ++ 32 ∷ c) ++ codes " = " ++ own ++ by ≡ (p ++ ((32 ∷ (c ++ codes " = ")) ++ rest)) ++ 10 ∷ []
    ends p c own by rest is =
        let front : (p ++ 32 ∷ c) ++ codes " = " ++ own ++ by ≡ p ++ 32 ∷ (c ++ (codes " = " ++ (own ++ by))) =
        simp append_assoc in
        let back : (p ++ ((32 ∷ (c ++ codes " = ")) ++ rest)) ++ 10 ∷ []
        ≡ p ++ 32 ∷ (c ++ (codes " = " ++ (rest ++ 10 ∷ []))) =
        simp append_assoc in
        front ∙ ap (λ (xs : List ℕ). p ++ 32 ∷ (c ++ (codes " = " ++ xs))) is ∙ sym back

-- What is read of a line that begins with a call has that process and that call.
pub record HasBegun (p : ℕ) (c : Call) (e : Entry) : Type 0 where
  pub pid : e.pid ≡ p
  pub call : e.call ≡ c

replied-made : (m : ℕ × Call) (bytes : List ℕ) (x : Entry) → replied_at m bytes ≡ Some x → HasBegun m.0 m.1 x
replied-made m bytes x h =
    let f = bind_some (strip (codes " = ") bytes)
    (λ front. own_at front >>= λ own. by_at own.1 >>= λ node. ended_entry m own.0 node.0 (wakes_at node.1)) x h in
    let o = bind_some (own_at f.0) (λ own. by_at own.1 >>= λ node. ended_entry m own.0 node.0 (wakes_at node.1)) x
    f.2 in
    let n = bind_some (by_at o.0.1) (λ node. ended_entry m o.0.0 node.0 (wakes_at node.1)) x o.2 in
    let entry : Entry = entry_of m o.0.0 n.0.0 (wakes_at n.0.1).0 in
    let w = chosen (has_ended (wakes_at n.0.1).1) (Some entry) x n.2 in
    let is : entry ≡ x = same_Some entry x w.1 in
    record { pid = sym (ap (λ (y : Entry). y.pid) is); call = sym (ap (λ (y : Entry). y.call) is) }

pub begins : (script : Script) (pid : ℕ) (call : Call) (rest : List ℕ) (e : Entry)
    → IsSoundScript script → pid ≤ 4294967295 → is_call script call ≡ true
    → entry_in script (line_with script pid call rest) ≡ Some e → HasBegun pid call e
unfolding entry_in entry_at
begins script pid call rest e sound small grammar read =
    let line : List ℕ = line_with script pid call rest in
    let b = bind_some (entry_at script line) (entry_if script line) e read in
    let same : b.0 ≡ e = same_Some b.0 e (chosen _ (Some b.0) e b.2).1 in
    let front : line ≡ decimal pid ++ 32 ∷ (call_text script call ++ 32 ∷ 61 ∷ (32 ∷ rest)) =
    ap (λ (xs : List ℕ). decimal pid ++ 32 ∷ xs) (append_assoc (call_text script call) (codes " = ") rest) in
    let is : made_at script line ≡ Some ((pid, call), 32 ∷ 61 ∷ (32 ∷ rest)) =
    ap (made_at script) front ∙ made-again script pid call (32 ∷ rest) sound small grammar in
    let m = bind_some (made_at script line) (λ made. replied_at made.0 made.1) b.0 b.1 in
    let which : m.0 ≡ ((pid, call), 32 ∷ 61 ∷ (32 ∷ rest)) = same_Some m.0 _ (sym m.1 ∙ is) in
    let r = replied-made m.0.0 m.0.1 b.0 m.2 in
    record {
      pid = ap (λ (x : Entry). x.pid) (sym same) ∙ r.pid ∙ ap (λ (q : (ℕ × Call) × List ℕ). q.0.0) which;
      call = ap (λ (x : Entry). x.call) (sym same) ∙ r.call ∙ ap (λ (q : (ℕ × Call) × List ℕ). q.0.1) which;
    }

-- An entry that has no fault on one line has none on any.
pub any-line : (script : Script) (line other : ℕ) (so_far after : SoFar) (e : Entry)
    → judge_entry script line so_far e ≡ Ok after → judge_entry script other so_far e ≡ Ok after
any-line script line other so_far after e h =
    of (may_come script so_far e.pid e.call) (transition so_far.kernel e.pid e.call (number_in e.outcome.own)) h
  where
    inner : (s : Successor) (b : Bool)
        → or_fault (cond b (Ok s.kernel) (Err (Illegal line (Some s.outcome) e.outcome)))
        (λ kernel. Ok (with_call script so_far e.pid e.call e.outcome kernel)) ≡ Ok after
        → or_fault (cond b (Ok s.kernel) (Err (Illegal other (Some s.outcome) e.outcome)))
        (λ kernel. Ok (with_call script so_far e.pid e.call e.outcome kernel)) ≡ Ok after
    inner s true g = g
    inner s false g = absurd (cc)

    of : (b : Bool) (t : Option Successor)
        → cond b (or_fault (judge_outcome line e.outcome t)
        (λ kernel. Ok (with_call script so_far e.pid e.call e.outcome kernel)))
        (Err (NotTheScript line (due_at so_far e.pid) (Some e.call))) ≡ Ok after
        → cond b (or_fault (judge_outcome other e.outcome t)
        (λ kernel. Ok (with_call script so_far e.pid e.call e.outcome kernel)))
        (Err (NotTheScript other (due_at so_far e.pid) (Some e.call))) ≡ Ok after
    of false t g = absurd (cc)
    of true None g = absurd (cc)
    of true (Some s) g = inner s (is_same_outcome s.outcome e.outcome) g

module _ {A : Type 0} (script : Script) (line : ℕ) (text : List ℕ) where
  -- a line that was read is judged as its entry
  pub judges-entry : (r : Result A CheckFault) (old new : Judge) (e : Entry) → entry_in script text ≡ Some e
      → Yields r (so_far_of script new.kernel new.cursors.entries)
      (judge_entry script line (so_far_of script old.kernel old.cursors.entries) e)
      → ((done : List Entry) → old.tally ≡ tally_of done → OnOk r (new.tally ≡ tally_of (done ++ e ∷ [])))
      → Judges r script line text old new
  judges-entry (Ok x) old new e reads y t =
      record {
        entry = e;
        reads = reads;
        judged = λ other. any-line script line other (so_far_of script old.kernel old.cursors.entries)
            (so_far_of script new.kernel new.cursors.entries) e y;
        tally = t;
      }
  judges-entry (Err fault) old new e reads y t =
      subst (λ (o : Option Entry). GivesFault fault
      (option_map_or (judge_entry script line (so_far_of script old.kernel old.cursors.entries)) o
      (Err (NotATrace line)))) (sym reads) y

  -- what nothing was done to is judged from where it was
  pub judges-before : (r : Result A CheckFault) (before old new : Judge) → Stays before old
      → Judges r script line text old new → Judges r script line text before new
  judges-before (Ok x) before old new s g =
      record {
        entry = g.entry;
        reads = g.reads;
        judged = λ other. rw (← s.kernel, ← s.cursors) (g.judged other);
        tally = λ done counted. g.tally done (s.tally ∙ counted);
      }
  judges-before (Err fault) before old new s g = rw (← s.kernel, ← s.cursors) g

-- What the kernel has carried out is judged by what is read of the line.

module _ (script : Script) (text : List ℕ) (sound : IsSoundScript script) (e : Entry)
    (reads : entry_in script text ≡ Some e) where
  begun-by : (cursors : Numbered Cursor) (b : IsBegun script cursors text) → HasBegun b.pid b.call e
  begun-by cursors b =
      begins script b.pid b.call b.rest e sound b.small b.grammar (ap (entry_in script) (sym b.is) ∙ reads)

  pub begun-may : (kernel : Kernel) (cursors : Numbered Cursor) → IsBegun script cursors text
      → MayMakeAt script cursors e.pid e.call
  begun-may kernel cursors b =
      let g = begun-by cursors b in
      rw (g.pid, g.call) (may-make-due script sound kernel cursors b.pid b.call b.due b.numberless)

  module _ (before old : Judge) (h : HasCarried script text before old) (outcome : Outcome)
      (other : old.other ≡ Some outcome) where
    carried : h.outcome ≡ outcome
    carried = same_Some h.outcome outcome (sym h.other ∙ other)

    as-made : (line : ℕ) → judge_entry script line (so_far_of script before.kernel before.cursors.entries) e
        ≡ judge_made script line (so_far_of script before.kernel before.cursors.entries) h.begun.pid h.begun.call
        e.outcome
    as-made line =
        let g = begun-by before.cursors.entries h.begun in
        ap (λ (p : ℕ). judge_made script line (so_far_of script before.kernel before.cursors.entries) p e.call
        e.outcome) g.pid
        ∙ ap (λ (c : Call). judge_made script line (so_far_of script before.kernel before.cursors.entries) h.begun.pid c
        e.outcome) g.call

    pub carried-other : (line : ℕ) → is_same_outcome outcome e.outcome ≡ false
        → judge_text script line text before ≡ Err (Illegal line (Some outcome) e.outcome)
    carried-other line same =
        let b = h.begun in
        ap (λ (o : Option Entry).
        option_map_or (judge_entry script line (so_far_of script before.kernel before.cursors.entries)) o
        (Err (NotATrace line))) reads
        ∙ as-made line
        ∙ other-made script sound before.kernel before.cursors.entries b.pid b.call b.due b.numberless b.grammar
        old.kernel h.outcome h.step e.outcome (ap (λ (o : Outcome). is_same_outcome o e.outcome) carried ∙ same) line
        ∙ ap (λ (o : Outcome). Err (Illegal line (Some o) e.outcome)) carried

    pub carried-same : (cursors : Numbered Cursor) → AreSteady script old.cursors.entries
        → is_same_outcome outcome e.outcome ≡ true
        → cursors ≡ moved_on script old.cursors.entries e.pid e.call e.outcome → (line : ℕ)
        → judge_entry script line (so_far_of script before.kernel before.cursors.entries) e
        ≡ Ok (so_far_of script old.kernel cursors)
    carried-same cursors steady same moved line =
        let b = h.begun in
        let g = begun-by before.cursors.entries b in
        let steady : AreSteady script before.cursors.entries = subst (AreSteady script) h.cursors steady in
        let to : moved_on script before.cursors.entries b.pid b.call e.outcome ≡ cursors =
        ap (λ (p : ℕ). moved_on script before.cursors.entries p b.call e.outcome) (sym g.pid)
        ∙ ap (λ (c : Call). moved_on script before.cursors.entries e.pid c e.outcome) (sym g.call)
        ∙ ap (λ (es : Numbered Cursor). moved_on script es e.pid e.call e.outcome) (sym h.cursors)
        ∙ sym moved in
        as-made line
        ∙ same-made script sound before.kernel before.cursors.entries b.pid b.call b.due b.numberless b.grammar
        old.kernel h.outcome h.step e.outcome steady
        (ap (λ (o : Outcome). is_same_outcome o e.outcome) carried ∙ same) line
        ∙ ap (λ (es : Numbered Cursor). Ok (so_far_of script old.kernel es)) to

-- What is told of a line is told of it however it is cut.

pub told-of : (r : Result Told Memory) (script : Script) (text cut : List ℕ) (old new : Judge) → text ≡ cut
    → IfOk r (λ told. Tells told script cut old new) → IfOk r (λ told. Tells told script text old new)
told-of r script text cut old new is h =
    subst (λ (xs : List ℕ). IfOk r (λ told. Tells told script xs old new)) (sym is) h

-- cut behind the call that is due
pub told-behind : (r : Result Told Memory) (script : Script) (pid : ℕ) (call : Call) (behind rest : List ℕ)
    (old new : Judge) → strip (call_front script call) behind ≡ Some rest
    → IfOk r (λ told. Tells told script (line_with script pid call rest) old new)
    → IfOk r (λ told. Tells told script (decimal pid ++ behind) old new)
told-behind r script pid call behind rest old new is h =
    told-of r script (decimal pid ++ behind) (line_with script pid call rest) old new
    (ap (λ (xs : List ℕ). decimal pid ++ xs) (strip_takes (call_front script call) behind rest is)) h

-- cut behind the number of the process
pub told-by : (r : Result Told Memory) (script : Script) (pid : ℕ) (text behind : List ℕ) (old new : Judge)
    → number_at 4294967295 text ≡ Some (pid, behind)
    → IfOk r (λ told. Tells told script (decimal pid ++ behind) old new)
    → IfOk r (λ told. Tells told script text old new)
told-by r script pid text behind old new is h =
    told-of r script text (decimal pid ++ behind) old new
    (number-was 4294967295 (omega arith) text pid behind (omega arith) is).0 h
