-- One entry more, by which nobody is woken, in the kernel in which callers wait: it stands beside the world afterwards,
-- with the caller's mark.
use Rattle.std.proofs.Common.{◌≡◌, ◌≢◌, ◌⊎◌, ℕ, true, false, if◌then◌else◌, List, [], ◌∷◌, ◌++◌, Option, Some, None, is_some, option_and_then, refl, ap, sym, subst, ◌∙◌, inl, inr, append-nil}
use Rattle.std.proofs.lemmas.Bool.{cases_eq, eq-eqb, ne_eqb, false≢true}
use Rattle.pico_base.specs.declared.call.Call.{Call}
use Rattle.pico_base.specs.declared.call.Call.TheVariants as calls
use Rattle.pico_base.specs.declared.numbers.Name.{Name}
use Rattle.pico_base.specs.declared.numbers.Name.TheVariants.{Proc}
use Rattle.pico_base.specs.declared.reply.Entry.{Entry}
use Rattle.pico_base.specs.declared.reply.Outcome.{Outcome}
use Rattle.pico_base.specs.declared.reply.Reply.{Reply}
use Rattle.number_maps.specs.Maps.{get}
use Rattle.kernel_model.specs.History.{number_in}
use Rattle.kernel_model.specs.Kernel as plain
use Rattle.kernel_model.specs.Row.{Row}
use Rattle.kernel_model.specs.Row as plain_rows
use Rattle.kernel_model.specs.Transition as plain_steps
use Rattle.waiting_model.specs.Calls.{is_withdrawal}
use Rattle.waiting_model.specs.History.{Replays}
use Rattle.waiting_model.specs.Kernel.{Kernel, Process, living_at, opening}
use Rattle.waiting_model.specs.Kernel as kernel
use Rattle.waiting_model.specs.Linear.{LeadInLine, in_line}
use Rattle.waiting_model.specs.Marks.{Alive}
use Rattle.waiting_model.specs.Transition.{successor, transition}
use Rattle.waiting_laws.specs.InLine.{AlikeAt, IsAlike}
use Rattle.waiting_laws.specs.Lines.{MayMakeLines, lines_of, own_line}
use Rattle.waiting_laws.specs.MarkMoves.{MovesMarks, own_mark}
use Rattle.waiting_laws.specs.Parked.{mark_in, mark_of}
use Rattle.waiting_laws.proofs.Leads.{GoesOn, KeepsMarks, KeepsWaiters, LivesOn, goes-on, others-keep-marks}
use Rattle.waiting_laws.proofs.MarkMoves.{reachable-moves}
use Rattle.entry_laws.specs.Entering.{HasRow}
use Rattle.entry_laws.proofs.Bodies.{body-living, living-body}
use Rattle.node_model.specs.declared.held.Held.{Held}
use Rattle.node_model.specs.Bodies.{Living as LivingBody, bare, body_in, waiters_of}
use Rattle.node_model.specs.Caller.{Caller}
use Rattle.node_model.specs.Entries.{entry_with}
use Rattle.world_model.specs.World.{World}
use Rattle.world_laws.specs.Places.{CallPlace, Parked, Waits, InAnswer, Beside}
use Rattle.world_laws.specs.Cancels.{AStrike, CancelHolds, CancelIf, Nothing, Owing, Wakes, cancel_sight, is_doomed, is_struck}
use Rattle.world_laws.specs.Wholes.{HasMarks, HasWhole, under_way_at}
use Rattle.world_laws.proofs.Cancels.{SameCancel, StaysOwed, cancel-stays}
use Rattle.world_laws.proofs.Wholes.{LivesAlike, lives-alike}
use Rattle.rule_laws.proofs.own.Bodies.{bodies-kept}

-- ---- who lives in both kernels

-- who lives in the kernel in which callers wait lives in the other one, with the same row
pub record LivesPlain (k : plain.Kernel) (pid : ℕ) (a : Alive) : Type 0 where
  pub alive : plain_rows.Alive
  pub lives : plain.living_at k pid ≡ Some alive
  pub row : alive.row ≡ a.row

plain-by : (k : plain.Kernel) (pid : ℕ) (a : Alive) (o : Option Process) (p : Option plain.Process)
    → get k.processes pid ≡ p → AlikeAt o p → option_and_then kernel.alive_in o ≡ Some a → LivesPlain k pid a
plain-by k pid a (Some (kernel.Living c)) (Some (plain.Living b)) is both h =
    let same : c ≡ a = cc
    in record {
      alive = b;
      lives = ap (option_and_then plain.alive_in) is;
      row = sym both.0 ∙ ap (λ (z : Alive). z.row) same;
    }
plain-by k pid a (Some (kernel.Living c)) (Some (plain.Ended ending)) is both h = absurd both
plain-by k pid a (Some (kernel.Living c)) (Some plain.Gone) is both h = absurd both
plain-by k pid a (Some (kernel.Living c)) None is both h = absurd both
plain-by k pid a (Some (kernel.Ended ending)) p is both h = absurd (cc)
plain-by k pid a (Some kernel.Gone) p is both h = absurd (cc)
plain-by k pid a None p is both h = absurd (cc)

-- whoever lives where callers wait lives in the other kernel, too
pub lives-plain : (whole : Kernel) (k : plain.Kernel) (pid : ℕ) (a : Alive) → IsAlike whole k
    → living_at whole pid ≡ Some a → LivesPlain k pid a
lives-plain whole k pid a alike h =
    plain-by k pid a (get whole.processes pid) (get k.processes pid) refl (alike.processes pid) h

dead-by : (o : Option Process) (p : Option plain.Process) → AlikeAt o p → option_and_then kernel.alive_in o ≡ None
    → option_and_then plain.alive_in p ≡ None
dead-by None None both h = refl
dead-by (Some (kernel.Ended ending)) (Some (plain.Ended other)) both h = refl
dead-by (Some kernel.Gone) (Some plain.Gone) both h = refl
dead-by (Some (kernel.Living c)) p both h = absurd (cc)
dead-by None (Some p) both h = absurd both
dead-by (Some (kernel.Ended ending)) None both h = absurd both
dead-by (Some (kernel.Ended ending)) (Some (plain.Living b)) both h = absurd both
dead-by (Some (kernel.Ended ending)) (Some plain.Gone) both h = absurd both
dead-by (Some kernel.Gone) None both h = absurd both
dead-by (Some kernel.Gone) (Some (plain.Living b)) both h = absurd both
dead-by (Some kernel.Gone) (Some (plain.Ended other)) both h = absurd both

-- and who doesn't live there doesn't here
pub dead-plain : (whole : Kernel) (k : plain.Kernel) (pid : ℕ) → IsAlike whole k → living_at whole pid ≡ None
    → plain.living_at k pid ≡ None
dead-plain whole k pid alike h = dead-by (get whole.processes pid) (get k.processes pid) (alike.processes pid) h

none-is-some : {A : Type 0} (a : A) → None ≡ Some a → ⊥
none-is-some a h = cc

some-same : {A : Type 0} (a c : A) → Some a ≡ Some c → a ≡ c
some-same a c h = cc

-- ---- the marks of a call's process

-- a process that is parked as before, and may make what it might, has the marks for its call
pub marks-carry : (place : CallPlace) (under_way : Option Call) (a c : Alive) → KeepsMarks a c
    → HasMarks place under_way a
    → HasMarks place under_way c
marks-carry place None a c keeps h = keeps.parked ∙ h
marks-carry Parked (Some call) a c keeps h = keeps.parked ∙ h
marks-carry (Waits name) (Some call) a c keeps h = keeps.parked ∙ h
marks-carry (InAnswer sender reply) (Some call) a c keeps h = keeps.parked ∙ h
marks-carry place (Some call) a c keeps h = keeps.may call h

-- ---- the entry

-- nobody is woken
abbrev pub outcome_alone : Option Reply → Outcome
outcome_alone own = record { own = own; woken = [] }

lines-alone : (k : Kernel) (node pid : ℕ) (call : Call) (own : Option Reply) → is_withdrawal call ≡ false
    → lines_of k (entry_with node pid call (outcome_alone own)) ≡ own_line node pid call own
lines-alone k node pid (calls.Withdraw name) own h = absurd (false≢true (sym h))
lines-alone k node pid call own h = append-nil (own_line node pid call own)

-- The process is new: the node has no call under way, and nothing lived under its number, which isn't the caller's.
pub record IsNewProcess (w' : World) (k : plain.Kernel) (y pid caller : ℕ) : Type 0 where
  pub no_call : under_way_at w' y ≡ None
  pub other : pid ≢ caller
  pub nobody : plain.living_at k pid ≡ None

-- What there is to show of such an entry, of a call of node x that isn't a withdrawal: it is a step of the kernel in
-- which
-- callers wait, and those at queues and sets stay; it is in the journal, and a reply in line; bodies are the next
-- kernel's;
-- and calls of others are where they were.
pub record EntersAlone (w w' : World) (b b' : Beside) (node x : ℕ) (call : Call) (own : Option Reply) : Type 0 where
  pub step : transition b.whole (b.pids x) call (number_in own) ≡ Some (successor b'.whole (outcome_alone own))
  pub keeps : KeepsWaiters b.whole b'.whole
  pub ends_no_wait : is_withdrawal call ≡ false
  pub may : (a : plain_rows.Alive) → plain.living_at b.kernel (b.pids x) ≡ Some a
      → plain_steps.may_make a call ≡ true
  pub journal : w'.journal ≡ w.journal ++ entry_with node (b.pids x) call (outcome_alone own) ∷ []
  pub lines : b'.lines ≡ b.lines ++ own_line node (b.pids x) call own
  pub led : LeadInLine plain.opening b.lines b.kernel
  pub leads : LeadInLine plain.opening b'.lines b'.kernel
  pub parts : (name : Name) → bare (b'.body name) ≡ body_in b'.kernel name
  pub waiters : (name : Name) → waiters_of (b'.body name) ≡ waiters_of (b.body name)
  -- of each node's process and call
  pub own_pid : b'.pids x ≡ b.pids x
  pub own_marks : (a : Alive) → a.marks.parked ≡ own_mark call own → HasMarks (b'.call x) (under_way_at w' x) a
  pub others : (y : ℕ) → y ≢ x
      → ((b'.pids y ≡ b.pids y) × (b.pids y ≢ b.pids x)) ⊎ IsNewProcess w' b.kernel y (b'.pids y) (b.pids x)
  pub calls : (y : ℕ) → y ≢ x → b'.pids y ≡ b.pids y → (b'.call y ≡ b.call y)
      × (under_way_at w' y ≡ under_way_at w y)
  pub dead : (y : ℕ) → y ≢ x → b'.pids y ≡ b.pids y → plain.living_at b.kernel (b.pids y) ≡ None
      → plain.living_at b'.kernel (b.pids y) ≡ None

module _ (w w' : World) (b b' : Beside) (node x : ℕ) (call : Call) (own : Option Reply) (h : HasWhole w b)
    (e : EntersAlone w w' b b' node x call own) where
  abbrev pid : ℕ
  pid = b.pids x

  abbrev entry : Entry
  entry = entry_with node pid call (outcome_alone own)

  lines-are : lines_of b.whole entry ≡ own_line node pid call own
  lines-are = lines-alone b.whole node pid call own e.ends_no_wait

  may-make : (o : Option Reply) → MayMakeLines b.kernel (own_line node pid call o)
  may-make None = tt
  may-make (Some reply) = (e.may, tt)

  goes : GoesOn w.journal b.whole entry b'.whole b'.kernel
  goes =
      goes-on w.journal b.whole b.kernel entry b'.whole b'.kernel
      (record {
        legal = h.legal;
        lines = subst (λ ls. LeadInLine plain.opening ls b.kernel) h.lines e.led;
        sound = h.sound;
        alike = h.alike;
        may = subst (λ ls. MayMakeLines b.kernel ls) (sym lines-are) (may-make own);
        step = e.step;
      })
      (subst (λ ls. LeadInLine plain.opening ls b'.kernel)
      (e.lines ∙ ap (λ ls. ls ++ own_line node pid call own) h.lines
      ∙ ap (λ ls. in_line w.journal ++ ls) (sym lines-are)) e.leads)

  moves : MovesMarks b.whole pid call (successor b'.whole (outcome_alone own))
  moves = reachable-moves w.journal b.whole h.legal pid call (number_in own) _ e.step

  -- the caller's mark
  own-marked : (a : Alive) → living_at b'.whole pid ≡ Some a → a.marks.parked ≡ own_mark call own
  own-marked a lives =
      sym (ap mark_of lives) ∙ moves pid
      ∙ ap (λ t. if t then own_mark call own else mark_in b.whole.processes pid) (eq-eqb pid pid refl)

  -- and that of a process that is new
  new-marked : (q : ℕ) (a : Alive) → q ≢ pid → living_at b.whole q ≡ None → living_at b'.whole q ≡ Some a
      → a.marks.parked ≡ None
  new-marked q a other none lives =
      sym (ap mark_of lives) ∙ moves q
      ∙ ap (λ t. if t then own_mark call own else mark_in b.whole.processes q) (ne_eqb pid q (λ s. other (sym s)))
      ∙ ap mark_of none

  -- who isn't the caller goes on, or doesn't live before nor afterwards
  other-marks : (y : ℕ) (a : Alive) → y ≢ x → b'.pids y ≡ b.pids y → b.pids y ≢ pid
      → living_at b'.whole (b.pids y) ≡ Some a → HasMarks (b.call y) (under_way_at w y) a
  other-marks y a other same apart lives = by-life (living_at b.whole (b.pids y)) refl
    where
      by-life : (o : Option Alive) → living_at b.whole (b.pids y) ≡ o → HasMarks (b.call y) (under_way_at w y) a
      by-life (Some c) was =
          let on : LivesOn b'.whole (b.pids y) c =
          others-keep-marks b.whole pid call (number_in own) _ h.sound e.step (b.pids y) c apart refl was
          in marks-carry (b.call y) (under_way_at w y) c a
          (subst (λ (z : Alive). KeepsMarks c z) (some-same on.alive a (sym on.lives ∙ lives)) on.keeps)
          (h.marks y c was)
      by-life None none =
          let now : LivesPlain b'.kernel (b.pids y) a = lives-plain b'.whole b'.kernel (b.pids y) a goes.alike lives
          in absurd (none-is-some now.alive
          (sym (e.dead y other same (dead-plain b.whole b.kernel (b.pids y) h.alike none)) ∙ now.lives))

  new-marks : (y : ℕ) (a : Alive) → IsNewProcess w' b.kernel y (b'.pids y) pid
      → living_at b'.whole (b'.pids y) ≡ Some a → HasMarks (b'.call y) (under_way_at w' y) a
  new-marks y a new lives =
      subst (λ o. HasMarks (b'.call y) o a) (sym new.no_call)
      (new-marked (b'.pids y) a new.other nobody lives)
    where
      nobody : living_at b.whole (b'.pids y) ≡ None
      nobody = by-life (living_at b.whole (b'.pids y)) refl
        where
          by-life : (o : Option Alive) → living_at b.whole (b'.pids y) ≡ o → living_at b.whole (b'.pids y) ≡ None
          by-life None is = is
          by-life (Some c) is =
              let was = lives-plain b.whole b.kernel (b'.pids y) c h.alike is
              in absurd (none-is-some was.alive (sym new.nobody ∙ was.lives))

  marks-now : (y : ℕ) (a : Alive) → living_at b'.whole (b'.pids y) ≡ Some a → HasMarks (b'.call y) (under_way_at w' y) a
  marks-now y a lives =
      elim (cases_eq y x) [
        | inl same ↦
            subst (λ z. HasMarks (b'.call z) (under_way_at w' z) a) (sym same)
            (e.own_marks a (own-marked a (ap (living_at b'.whole) (sym (ap b'.pids same ∙ e.own_pid)) ∙ lives)))
        | inr other ↦
            elim (e.others y other) [
              | inl old ↦
                  let calls = e.calls y other old.0
                  in subst (λ place. HasMarks place (under_way_at w' y) a) (sym calls.0)
                  (subst (λ o. HasMarks (b.call y) o a) (sym calls.1)
                  (other-marks y a other old.0 old.1 (ap (living_at b'.whole) (sym old.0) ∙ lives)))
              | inr new ↦ new-marks y a new lives
            ]
      ]

  -- It stands beside the world afterwards.
  pub has-whole-then : HasWhole w' b'
  has-whole-then =
      record {
        legal = subst (λ j. Replays opening j b'.whole) (sym e.journal) goes.legal;
        lines = e.lines ∙ ap (λ ls. ls ++ own_line node pid call own) h.lines
            ∙ ap (λ ls. in_line w.journal ++ ls) (sym lines-are) ∙ sym goes.lines ∙ ap in_line (sym e.journal);
        alike = goes.alike;
        sound = goes.sound;
        bodies = bodies-kept b.whole b'.whole b'.kernel goes.alike e.keeps b.body b'.body h.bodies e.parts e.waiters;
        marks = marks-now;
      }

  -- ---- withdrawals of others

  module _ (y : ℕ) (other : y ≢ x) (same_pid : b'.pids y ≡ b.pids y) (apart : b.pids y ≢ pid)
      (body_stays : (c : plain_rows.Alive) → plain.living_at b'.kernel (b.pids y) ≡ Some c
      → body_in b'.kernel (Proc (b.pids y)) ≡ body_in b.kernel (Proc (b.pids y))) where
    abbrev q : ℕ
    q = b.pids y

    still-struck : is_struck (living_at b.whole q) ≡ true → is_struck (living_at b'.whole q) ≡ true
    still-struck = by-life (living_at b.whole q) refl
      where
        by-life : (o : Option Alive) → living_at b.whole q ≡ o → is_struck (living_at b.whole q) ≡ true
            → is_struck (living_at b'.whole q) ≡ true
        by-life None is struck = absurd (false≢true (sym (ap is_struck is) ∙ struck))
        by-life (Some c) is struck =
            let on : LivesOn b'.whole q c =
            others-keep-marks b.whole pid call (number_in own) _ h.sound e.step q c apart refl is
            in ap is_struck on.lives ∙ on.keeps.struck (sym (ap is_struck is) ∙ struck)

    was-doomed : is_doomed (living_at b'.whole q) ≡ true → is_doomed (living_at b.whole q) ≡ true
    was-doomed = by-life (living_at b'.whole q) refl
      where
        by-life : (o : Option Alive) → living_at b'.whole q ≡ o → is_doomed (living_at b'.whole q) ≡ true
            → is_doomed (living_at b.whole q) ≡ true
        by-life None is doomed = absurd (false≢true (sym (ap is_doomed is) ∙ doomed))
        by-life (Some a) is doomed =
            let now : LivesPlain b'.kernel q a = lives-plain b'.whole b'.kernel q a goes.alike is
            in let was : HasRow b.kernel q a.row =
            body-living b.kernel q a.row
            (sym (body_stays now.alive now.lives) ∙ living-body b'.kernel q now.alive now.lives ∙ ap LivingBody now.row)
            in let before : LivesAlike b.whole q was.alive = lives-alike b.whole b.kernel q was.alive h.alike was.lives
            in ap is_doomed before.lives
            ∙ ap (λ (r : Row). is_some r.signals.doom) (before.row ∙ was.row_is)
            ∙ sym (ap is_doomed is) ∙ doomed

    stays-owed : (hand hand' : List Held) (owes : Owing) → CancelHolds y owes (cancel_sight w hand b y)
        → SameCancel (cancel_sight w hand b y) (cancel_sight w' hand' b' y)
        → StaysOwed y owes owes (cancel_sight w hand b y) (cancel_sight w' hand' b' y)
    stays-owed hand hand' owes holds same =
        record {
          owed = λ none. none;
          struck = λ struck. ap (λ z. is_struck (living_at b'.whole z)) same_pid ∙ still-struck struck;
          doomed = λ none doomed. was-doomed (sym (ap (λ z. is_doomed (living_at b'.whole z)) same_pid) ∙ doomed);
          strikes = λ owed some. ap (λ z. is_struck (living_at b'.whole z)) same_pid
              ∙ still-struck (holds.owed owed (ap (λ (c : Caller). is_some c.under_way) same.caller ∙ some));
        }

    -- What holds of them holds still.
    pub other-withdrawal : (hand hand' : List Held) (owes : Owing)
        → SameCancel (cancel_sight w hand b y) (cancel_sight w' hand' b' y)
        → CancelIf y owes (cancel_sight w hand b y) → CancelIf y owes (cancel_sight w' hand' b' y)
    other-withdrawal hand hand' Nothing same holds =
        cancel-stays y Nothing Nothing (cancel_sight w hand b y) (cancel_sight w' hand' b' y) same
        (stays-owed hand hand' Nothing holds same) holds
    other-withdrawal hand hand' (AStrike p) same holds =
        cancel-stays y (AStrike p) (AStrike p) (cancel_sight w hand b y) (cancel_sight w' hand' b' y) same
        (stays-owed hand hand' (AStrike p) holds same) holds
    other-withdrawal hand hand' Wakes same holds = tt
