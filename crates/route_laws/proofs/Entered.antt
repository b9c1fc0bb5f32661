-- One entry more in the kernel in which callers wait, with all whom it wakes: it stands beside the world afterwards,
-- with each process's mark.
use Rattle.std.proofs.Common.{◌≡◌, ◌≢◌, ℕ, Bool, true, false, if◌then◌else◌, List, [], ◌∷◌, ◌++◌, Option, Some, None, is_some, refl, ap, sym, subst, ◌∙◌, inl, inr, ◌≤◌}
use Rattle.std.proofs.lemmas.Bool.{cases_eq, eq-eqb, ne_eqb, false≢true}
use Rattle.pico_base.specs.declared.call.Call.{Call}
use Rattle.pico_base.specs.declared.numbers.Name.{Name}
use Rattle.pico_base.specs.declared.numbers.Name.TheVariants.{Proc}
use Rattle.pico_base.specs.declared.reply.Entry.{Entry}
use Rattle.pico_base.specs.declared.reply.Outcome.{Outcome}
use Rattle.pico_base.specs.declared.script.Script.{Script}
use Rattle.kernel_model.specs.History.{number_in}
use Rattle.kernel_model.specs.Kernel as plain
use Rattle.kernel_model.specs.Row.{Row}
use Rattle.waiting_model.specs.History.{Replays}
use Rattle.waiting_model.specs.Calls.{waits_at}
use Rattle.waiting_model.specs.Kernel.{Kernel, living_at, opening}
use Rattle.waiting_model.specs.Linear.{LeadInLine, in_line}
use Rattle.waiting_model.specs.Marks.{Alive}
use Rattle.waiting_model.specs.Transition.{successor, transition}
use Rattle.waiting_laws.specs.InLine.{IsAlike}
use Rattle.waiting_laws.specs.Lines.{MayMakeLines, lines_of}
use Rattle.waiting_laws.specs.MarkMoves.{MovesMarks, own_mark}
use Rattle.waiting_laws.specs.Parked.{mark_in, mark_of}
use Rattle.waiting_laws.specs.Woken.{woken_in}
use Rattle.waiting_laws.proofs.Leads.{GoesOn, LivesOn, KeepsMarks, goes-on, others-keep-marks}
use Rattle.waiting_laws.proofs.MarkMoves.{reachable-moves}
use Rattle.entry_laws.specs.Entering.{HasRow}
use Rattle.entry_laws.proofs.Bodies.{body-living, living-body}
use Rattle.node_model.specs.Bodies.{Living as LivingBody, erase, body_in, whole_in}
use Rattle.node_model.specs.Entries.{entry_with}
use Rattle.node_model.specs.declared.held.Held.{Held}
use Rattle.world_model.specs.World.{World, node_count}
use Rattle.world_laws.specs.Places.{Beside, CancelPlace}
use Rattle.world_laws.specs.Cancels.{LeadsNowhere, is_doomed, is_struck, CancelIf, Owing, Wakes, cancel_sight, CancelHolds, CancelSight, owing_of}
use Rattle.world_laws.specs.Wholes.{HasMarks, HasWhole, under_way_at, WholeIf}
use Rattle.node_model.specs.Caller.{Caller}
use Rattle.world_laws.proofs.Cancels.{SameCancel, later-on, may_be_withdrawn}
use Rattle.world_laws.proofs.Following.{SameOld}
use Rattle.world_laws.proofs.Wholes.{LivesAlike, lives-alike}
use Rattle.world_laws.specs.Invariant.{HoldsOwing}
use Rattle.rule_laws.proofs.own.InWhole.{LivesPlain, dead-plain, lives-plain, marks-carry}

none-is-some : {A : Type 0} (a : A) → None ≡ Some a → ⊥
none-is-some a h = cc

some-same : {A : Type 0} (a c : A) → Some a ≡ Some c → a ≡ c
some-same a c h = cc

-- What there is to show of such an entry, of a call of node x: it is a step of the kernel in which callers wait, and
-- each of its lines may be made; it is in the journal, and its lines in line; bodies are the next kernel's; and where
-- calls are then, by their processes' marks.
pub record EntersWith (w w' : World) (b b' : Beside) (node x : ℕ) (call : Call) (outcome : Outcome) : Type 0 where
  pub step : transition b.whole (b.pids x) call (number_in outcome.own) ≡ Some (successor b'.whole outcome)
  pub may : MayMakeLines b.kernel (lines_of b.whole (entry_with node (b.pids x) call outcome))
  pub journal : w'.journal ≡ w.journal ++ entry_with node (b.pids x) call outcome ∷ []
  pub lines : b'.lines ≡ b.lines ++ lines_of b.whole (entry_with node (b.pids x) call outcome)
  pub led : LeadInLine plain.opening b.lines b.kernel
  pub leads : LeadInLine plain.opening b'.lines b'.kernel
  pub bodies : IsAlike b'.whole b'.kernel → (name : Name) → erase (b'.body name) ≡ whole_in b'.whole name
  -- of the caller, of those who are woken, and of all others
  pub pids : (y : ℕ) → b'.pids y ≡ b.pids y
  pub apart : (y : ℕ) → y ≢ x → b.pids y ≢ b.pids x
  pub own_marks : IsAlike b'.whole b'.kernel → (a : Alive) → living_at b'.whole (b.pids x) ≡ Some a
      → a.marks.parked ≡ own_mark call outcome.own → HasMarks (b'.call x) (under_way_at w' x) a
  pub woken : (y : ℕ) → y ≢ x → woken_in (b.pids y) outcome.woken ≡ true → (a : Alive) → a.marks.parked ≡ None
      → HasMarks (b'.call y) (under_way_at w' y) a
  pub others : (y : ℕ) → y ≢ x → woken_in (b.pids y) outcome.woken ≡ false → (a : Alive)
      → HasMarks (b.call y) (under_way_at w y) a → HasMarks (b'.call y) (under_way_at w' y) a
  pub dead : (y : ℕ) → y ≢ x → plain.living_at b.kernel (b.pids y) ≡ None
      → plain.living_at b'.kernel (b.pids y) ≡ None

-- A process that lives afterwards lived before, and it was doomed if it is.
abbrev pub KeepsDoom : plain.Kernel → plain.Kernel → ℕ → Type 0
KeepsDoom k next q = (r : Row) → body_in next (Proc q) ≡ LivingBody r
    → (s : Row) × (body_in k (Proc q) ≡ LivingBody s) × (is_some r.signals.doom ≡ is_some s.signals.doom)

module _ (w w' : World) (b b' : Beside) (node x : ℕ) (call : Call) (outcome : Outcome) (h : HasWhole w b)
    (e : EntersWith w w' b b' node x call outcome) where
  abbrev pid : ℕ
  pid = b.pids x

  abbrev entry : Entry
  entry = entry_with node pid call outcome

  pub goes : GoesOn w.journal b.whole entry b'.whole b'.kernel
  goes =
      goes-on w.journal b.whole b.kernel entry b'.whole b'.kernel
      (record {
        legal = h.legal;
        lines = subst (λ ls. LeadInLine plain.opening ls b.kernel) h.lines e.led;
        sound = h.sound;
        alike = h.alike;
        may = e.may;
        step = e.step;
      })
      (subst (λ ls. LeadInLine plain.opening ls b'.kernel)
      (e.lines ∙ ap (λ ls. ls ++ lines_of b.whole entry) h.lines) e.leads)

  moves : MovesMarks b.whole pid call (successor b'.whole outcome)
  moves = reachable-moves w.journal b.whole h.legal pid call (number_in outcome.own) _ e.step

  -- the caller's mark
  own-marked : (a : Alive) → living_at b'.whole pid ≡ Some a → a.marks.parked ≡ own_mark call outcome.own
  own-marked a lives =
      sym (ap mark_of lives) ∙ moves pid
      ∙ ap (λ t. if t then own_mark call outcome.own
      else if woken_in pid outcome.woken then None else mark_in b.whole.processes pid) (eq-eqb pid pid refl)

  -- who is woken has none any more
  woken-marked : (q : ℕ) (a : Alive) → q ≢ pid → woken_in q outcome.woken ≡ true → living_at b'.whole q ≡ Some a
      → a.marks.parked ≡ None
  woken-marked q a other is_woken lives =
      sym (ap mark_of lives) ∙ moves q
      ∙ ap (λ t. if t then own_mark call outcome.own
      else if woken_in q outcome.woken then None else mark_in b.whole.processes q)
      (ne_eqb pid q (λ same. other (sym same)))
      ∙ ap (λ t. if t then None else mark_in b.whole.processes q) is_woken

  -- who lives afterwards lived before
  lived : (q : ℕ) (a : Alive)
      → (plain.living_at b.kernel q ≡ None → plain.living_at b'.kernel q ≡ None) → living_at b'.whole q ≡ Some a
      → (c : Alive) × (living_at b.whole q ≡ Some c)
  lived q a dead lives = by-life (living_at b.whole q) refl
    where
      by-life : (o : Option Alive) → living_at b.whole q ≡ o → (c : Alive) × (living_at b.whole q ≡ Some c)
      by-life (Some c) was = (c, was)
      by-life None none =
          let now : LivesPlain b'.kernel q a = lives-plain b'.whole b'.kernel q a goes.alike lives
          in absurd (none-is-some now.alive (sym (dead (dead-plain b.whole b.kernel q h.alike none)) ∙ now.lives))

  other-marks : (y : ℕ) (a : Alive) → y ≢ x → living_at b'.whole (b.pids y) ≡ Some a → (t : Bool)
      → woken_in (b.pids y) outcome.woken ≡ t → HasMarks (b'.call y) (under_way_at w' y) a
  other-marks y a other lives true is = e.woken y other is a (woken-marked (b.pids y) a (e.apart y other) is lives)
  other-marks y a other lives false isnt =
      let was = lived (b.pids y) a (e.dead y other) lives
      in let on : LivesOn b'.whole (b.pids y) was.0 =
      others-keep-marks b.whole pid call (number_in outcome.own) _ h.sound e.step (b.pids y) was.0 (e.apart y other)
      isnt was.1
      in e.others y other isnt a
      (marks-carry (b.call y) (under_way_at w y) was.0 a
      (subst (λ (z : Alive). KeepsMarks was.0 z) (some-same on.alive a (sym on.lives ∙ lives)) on.keeps)
      (h.marks y was.0 was.1))

  marks-then : (y : ℕ) (a : Alive) → living_at b'.whole (b'.pids y) ≡ Some a → HasMarks (b'.call y) (under_way_at w' y)
      a
  marks-then y a lives =
      elim (cases_eq y x) [
        | inl same ↦
            subst (λ z. HasMarks (b'.call z) (under_way_at w' z) a) (sym same)
            (let there : living_at b'.whole pid ≡ Some a =
            ap (living_at b'.whole) (sym (e.pids y ∙ ap b.pids same)) ∙ lives
            in e.own_marks goes.alike a there (own-marked a there))
        | inr other ↦
            other-marks y a other (ap (living_at b'.whole) (sym (e.pids y)) ∙ lives)
            (woken_in (b.pids y) outcome.woken) refl
      ]

  -- It stands beside the world afterwards.
  pub entered-whole : HasWhole w' b'
  entered-whole =
      record {
        legal = subst (λ j. Replays opening j b'.whole) (sym e.journal) goes.legal;
        lines = e.lines ∙ ap (λ ls. ls ++ lines_of b.whole entry) h.lines ∙ sym goes.lines ∙ ap in_line (sym e.journal);
        alike = goes.alike;
        sound = goes.sound;
        bodies = e.bodies goes.alike;
        marks = marks-then;
      }

  -- ---- for the withdrawals

  -- who isn't woken is struck still
  pub still-struck : (q : ℕ) → q ≢ pid → woken_in q outcome.woken ≡ false → is_struck (living_at b.whole q) ≡ true
      → is_struck (living_at b'.whole q) ≡ true
  still-struck q other isnt = by-life (living_at b.whole q) refl
    where
      by-life : (o : Option Alive) → living_at b.whole q ≡ o → is_struck (living_at b.whole q) ≡ true
          → is_struck (living_at b'.whole q) ≡ true
      by-life None is struck = absurd (false≢true (sym (ap is_struck is) ∙ struck))
      by-life (Some c) is struck =
          let on : LivesOn b'.whole q c =
          others-keep-marks b.whole pid call (number_in outcome.own) _ h.sound e.step q c other isnt is
          in ap is_struck on.lives ∙ on.keeps.struck (sym (ap is_struck is) ∙ struck)

  -- who is doomed was so
  pub was-doomed : (q : ℕ) → KeepsDoom b.kernel b'.kernel q → is_doomed (living_at b'.whole q) ≡ true
      → is_doomed (living_at b.whole q) ≡ true
  was-doomed q keeps = by-life (living_at b'.whole q) refl
    where
      by-life : (o : Option Alive) → living_at b'.whole q ≡ o → is_doomed (living_at b'.whole q) ≡ true
          → is_doomed (living_at b.whole q) ≡ true
      by-life None is doomed = absurd (false≢true (sym (ap is_doomed is) ∙ doomed))
      by-life (Some a) is doomed =
          let now : LivesPlain b'.kernel q a = lives-plain b'.whole b'.kernel q a goes.alike is
          in let before = keeps a.row (living-body b'.kernel q now.alive now.lives ∙ ap LivingBody now.row)
          in let was : HasRow b.kernel q before.0 = body-living b.kernel q before.0 before.1
          in let there : LivesAlike b.whole q was.alive = lives-alike b.whole b.kernel q was.alive h.alike was.lives
          in ap is_doomed there.lives
          ∙ ap (λ (r : Row). is_some r.signals.doom) (there.row ∙ was.row_is)
          ∙ sym before.2 ∙ sym (ap is_doomed is) ∙ doomed

-- ---- once all are woken

-- What is said of the kernel in which callers wait, and of withdrawals, comes last.
pub caught-up : (script : Script) (w : World) (hand : List Held) (owes : Owing) (b : Beside)
    → HoldsOwing script w hand Wakes b → WholeIf owes w b
    → ((p : ℕ) → 1 ≤ p → p ≤ node_count script → CancelIf p owes (cancel_sight w hand b p))
    → HoldsOwing script w hand owes b
caught-up script w hand owes b h whole cancels =
    record {
      shape = h.shape;
      history = h.history;
      whole = whole;
      leading = h.leading;
      pids = h.pids;
      nodes = h.nodes;
      frames_fit = h.frames_fit;
      names = h.names;
      calls = h.calls;
      cancels = cancels;
      ways = h.ways;
      parcels = h.parcels;
      kinds = h.kinds;
      few = h.few;
      keys = h.keys;
      families = h.families;
    }

-- What is owed is nothing to all else.
pub forget-owed : (script : Script) (w : World) (hand : List Held) (owes : Owing) (b : Beside)
    → HoldsOwing script w hand owes b → HoldsOwing script w hand Wakes b
forget-owed script w hand owes b h =
    record {
      shape = h.shape;
      history = h.history;
      whole = tt;
      leading = h.leading;
      pids = h.pids;
      nodes = h.nodes;
      frames_fit = h.frames_fit;
      names = h.names;
      calls = h.calls;
      cancels = λ p low high. tt;
      ways = h.ways;
      parcels = h.parcels;
      kinds = h.kinds;
      few = h.few;
      keys = h.keys;
      families = h.families;
    }

-- The same with another kernel in which callers wait, and with withdrawals elsewhere.
pub caught-up-with : (script : Script) (w : World) (hand : List Held) (owes : Owing) (b : Beside) (whole : Kernel)
    (cancel : ℕ → CancelPlace) → HoldsOwing script w hand Wakes b
    → WholeIf owes w (record b { whole = whole; cancel = cancel })
    → ((p : ℕ) → 1 ≤ p → p ≤ node_count script
    → CancelIf p owes (cancel_sight w hand (record b { whole = whole; cancel = cancel }) p))
    → HoldsOwing script w hand owes (record b { whole = whole; cancel = cancel })
caught-up-with script w hand owes b whole cancel h is_whole cancels =
    record {
      shape = h.shape;
      history = h.history;
      whole = is_whole;
      leading = h.leading;
      pids = h.pids;
      nodes = h.nodes;
      frames_fit = h.frames_fit;
      names = h.names;
      calls = h.calls;
      cancels = cancels;
      ways = h.ways;
      parcels = h.parcels;
      kinds = h.kinds;
      few = h.few;
      keys = h.keys;
      families = h.families;
    }

-- ---- what is seen of withdrawals twice

-- the same, and then the same
pub seen-on : (x y z : CancelSight) → SameCancel x y → SameCancel y z → SameCancel x z
seen-on x y z g h =
    record {
      number = g.number ∙ h.number;
      pid = g.pid ∙ h.pid;
      caller = g.caller ∙ h.caller;
      call = g.call ∙ h.call;
      cancel = g.cancel ∙ h.cancel;
      cancels = λ to sender. g.cancels to sender ∙ h.cancels to sender;
      held_cancels = λ name. g.held_cancels name ∙ h.held_cancels name;
      hand_cancels = g.hand_cancels ∙ h.hand_cancels;
      of_call = λ to sender. g.of_call to sender ∙ h.of_call to sender;
      held_of_call = λ name. g.held_of_call name ∙ h.held_of_call name;
      hand_of_call = g.hand_of_call ∙ h.hand_of_call;
      nowhere = λ call is may l.
          let is-then : y.caller.under_way ≡ Some call = ap (λ (k : Caller). k.under_way) (sym g.caller) ∙ is
          in subst (λ q. LeadsNowhere z (waits_at q call)) (sym g.pid)
          (h.nowhere call is-then (ap (λ q. may_be_withdrawn q call) (sym g.pid) ∙ may)
          (subst (λ q. LeadsNowhere y (waits_at q call)) g.pid (g.nowhere call is may l)));
    }

-- also of old ones alone
pub old-behind : (x y z : CancelSight) → SameOld x y → SameOld y z → SameOld x z
old-behind x y z g h =
    record {
      of = record {
        pid = g.of.pid ∙ h.of.pid;
        later = later-on x.caller y.caller z.caller g.of.later h.of.later;
      };
      cancels = λ to sender. g.cancels to sender ∙ h.cancels to sender;
      held_cancels = λ name. g.held_cancels name ∙ h.held_cancels name;
      hand_cancels = g.hand_cancels ∙ h.hand_cancels;
    }

-- ---- where a strike is owed, or nothing

-- of the kernel in which callers wait all is said then
pub whole-of : (p : ℕ) (strikes : Bool) (w : World) (b : Beside) → WholeIf (owing_of p strikes) w b → HasWhole w b
whole-of p true w b h = h
whole-of p false w b h = h

-- and no more than that
pub whole-if : (p : ℕ) (strikes : Bool) (w : World) (b : Beside) → HasWhole w b → WholeIf (owing_of p strikes) w b
whole-if p true w b h = h
whole-if p false w b h = h

-- so it is of withdrawals
pub cancel-holds-of : (p : ℕ) (strikes : Bool) (y : ℕ) (x : CancelSight) → CancelIf y (owing_of p strikes) x
    → CancelHolds y (owing_of p strikes) x
cancel-holds-of p true y x h = h
cancel-holds-of p false y x h = h

-- also the other way
pub cancel-if-of : (p : ℕ) (strikes : Bool) (y : ℕ) (x : CancelSight) → CancelHolds y (owing_of p strikes) x
    → CancelIf y (owing_of p strikes) x
cancel-if-of p true y x h = h
cancel-if-of p false y x h = h
