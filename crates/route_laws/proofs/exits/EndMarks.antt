-- After the end of a process: the kernel in which callers wait stands beside the world, and of withdrawals all holds as
-- before, but for the strike of a parent.
use Rattle.std.proofs.Common.{Bool, None, Some, ap, false, if◌then◌else◌, inl, inr, is_some, refl, subst, sym, true, ℕ, ◌∙◌, ◌≡◌, ◌≢◌, List, [], ◌++◌, ◌∷◌, Option, nat_eq, not, ◌&&◌, ◌||◌, ◌⊎◌}
use Rattle.std.proofs.lemmas.Bool.{cases_eq, false≢true, eqb-true}
use Rattle.std.specs.Option.{option_map_or}
use Rattle.pico_base.specs.declared.signal.Act.{Act}
use Rattle.pico_base.specs.declared.signal.Act.TheVariants.{Catch, Dfl, Ign}
use Rattle.pico_base.specs.declared.signal.Sig.TheVariants.{Chld}
use Rattle.pico_base.specs.declared.numbers.Name.TheVariants.{Proc}
use Rattle.pico_base.specs.Signal.{put_at, at}
use Rattle.kernel_model.specs.Row.{Row, family_after_end, ignores_children, Alive, raise_by_other, lists}
use Rattle.kernel_model.specs.Signals.{Signals, arrive_by, discards, raise, arrive}
use Rattle.node_model.specs.Bodies.{AQueue, ASet, Body, Ended, Gone, Living as LivingBody, Removed, body_in, waiters_of, row_of}
use Rattle.node_model.specs.declared.held.Held.{Held}
use Rattle.node_model.specs.Parcels.{ending_of}
use Rattle.node_model.specs.Entries.{entry_with}
use Rattle.node_model.specs.Caller.{Caller}
use Rattle.node_model.specs.Serving.{child_strikes}
use Rattle.node_model.specs.Kinds.{get_named, none_named}
use Rattle.entry_laws.proofs.Ends.{EndBodies}
use Rattle.entry_laws.specs.Entering.{HasRow}
use Rattle.route_laws.proofs.Entered.{KeepsDoom, EntersWith, entered-whole, still-struck, was-doomed}
use Rattle.route_laws.proofs.exits.Parcels.{HasParcel, parcel-forked, high-node, is-an-end, low-node}
use Rattle.route_laws.proofs.exits.WholeEnds.{end_outcome, whole-end, whole-steps, ending-known}
use Rattle.route_laws.proofs.exits.Exits.{exit_entry, pid-is, parent_body, parent-here}
use Rattle.route_laws.proofs.exits.Parents.{has-row, parent-lives, parent_alike}
use Rattle.serve_laws.proofs.Committed.{free_alive}
use Rattle.serve_laws.specs.Ends.{is_among}
use Rattle.serve_laws.proofs.KernelEnds.{left_by}
use Rattle.pico_base.specs.declared.reply.Ending.{Ending}
use Rattle.pico_base.specs.declared.call.Call.{Call}
use Rattle.pico_base.specs.declared.reply.Entry.{Entry}
use Rattle.pico_base.specs.declared.numbers.Name.{Name}
use Rattle.pico_base.specs.declared.reply.Outcome.{Outcome}
use Rattle.pico_base.specs.declared.script.Script.{Script}
use Rattle.pico_base.specs.declared.call.Call.TheVariants as calls
use Rattle.rpc_frame.specs.declared.deed.Parcel.{Parcel}
use Rattle.kernel_model.specs.Kernel.{Kernel, living_at}
use Rattle.waiting_model.specs.Marks as whole_rows
use Rattle.kernel_model.specs.History.{number_in}
use Rattle.world_laws.specs.Places.{Beside, DeedPlace, InTable, Ends, NoCancel}
use Rattle.world_laws.specs.Deeds.{DeedsAreRead}
use Rattle.world_laws.specs.Wholes.{HasMarks, HasWhole, under_way_at}
use Rattle.world_laws.specs.Invariant.{HoldsOwing}
use Rattle.world_laws.specs.Names.{NameHolds, name_sight}
use Rattle.world_laws.specs.Cancels.{Owing, Wakes, CancelHolds, CancelSight, OfCall, cancel_sight, is_doomed, is_owed, is_struck, owing_of}
use Rattle.world_laws.specs.Sights.{is_born_in, node_of}
use Rattle.world_laws.specs.Families.{HoldsIn, NodeHolds}
use Rattle.world_laws.proofs.Cancels.{OldHold, SameCancel, StaysOwed, cancel-stays, may_be_withdrawn, same-later}
use Rattle.world_laws.proofs.Following.{never-cancelled, old-holds}
use Rattle.world_laws.proofs.Owed.{owed-of-others}
use Rattle.waiting_laws.proofs.Struck.{EndsWhole, end-strikes, IsStruck}
use Rattle.waiting_laws.proofs.OwnLines.{KeepsWaiters}
use Rattle.waiting_laws.specs.Lines.{MayMakeLines, lines_of}
use Rattle.waiting_laws.specs.Woken.{woken_in}
use Rattle.rule_laws.proofs.own.InWhole.{LivesPlain, lives-plain}
use Rattle.rule_laws.proofs.own.Bodies.{bodies-kept}
use Rattle.rule_laws.proofs.ends.RecallAlls.{deeds_at}
use Rattle.world_model.specs.World.{World}
use Rattle.world_model.specs.Node.{Node, own_row}
use Rattle.world_model.specs.Lives.{is_end}
use Rattle.world_model.specs.Ends.{is_struck_by_end}
use Rattle.waiting_model.specs.Transition.{successor}
use Rattle.waiting_model.specs.Kernel as whole_kernels
use Rattle.waiting_model.specs.Marks.{strikes}

none-is-some : {A : Type 0} (a : A) → None ≡ Some a → ⊥
none-is-some a e = cc

-- ---- CHLD dooms nobody

caught-keeps : (s : Signals) (act : Act) → discards act Chld ≡ false → is_some (arrive_by act s Chld).doom ≡ is_some
    s.doom
caught-keeps s Catch h = refl
caught-keeps s Dfl h = absurd (false≢true (sym h))
caught-keeps s Ign h = absurd (false≢true (sym h))

abbrev raised : Signals → Bool → Bool → Bool → Signals
raised s doomed discarded masked =
    if doomed then s else if discarded then s
    else if masked then record s { pending = put_at s.pending Chld true } else arrive s Chld

raised-keeps : (s : Signals) (doomed discarded masked : Bool) → discards (at s.actions Chld) Chld ≡ discarded
    → is_some (raised s doomed discarded masked).doom ≡ is_some s.doom
raised-keeps s true discarded masked h = refl
raised-keeps s false true masked h = refl
raised-keeps s false false true h = refl
raised-keeps s false false false h = caught-keeps s (at s.actions Chld) h

chld-keeps : (s : Signals) → is_some (raise s Chld).doom ≡ is_some s.doom
chld-keeps s = raised-keeps s (is_some s.doom) (discards (at s.actions Chld) Chld) (at s.mask Chld) refl

child-ended-keeps : (row : Row) (pid : ℕ) (ending : Ending) (ignored : Bool)
    → (let after : Row = (let next : Alive = record (free_alive row) {
      row = record { signals = row.signals; family = family_after_end row.family pid ending ignored };
    } in if ignored then next else raise_by_other next Chld).row in is_some after.signals.doom ≡ is_some
    row.signals.doom)
child-ended-keeps row pid ending true = refl
child-ended-keeps row pid ending false = chld-keeps row.signals

-- so the parent of a process that ends is doomed where it was
parent-keeps-doom : (k next : Kernel) (pid parent : ℕ) (body : Body) (ending : Ending) → body_in k (Proc parent) ≡ body
    → body_in next (Proc parent) ≡ left_by body pid ending → KeepsDoom k next parent
parent-keeps-doom k next pid parent (LivingBody row) ending was now r is = (
  row,
  was,
  ap is_some (ap (λ (x : Row). x.signals.doom) (row-same (sym is ∙ now)))
      ∙ child-ended-keeps row pid ending (ignores_children row),
)
  where
    row-same : {a c : Row} → LivingBody a ≡ LivingBody c → a ≡ c
    row-same e = cc
parent-keeps-doom k next pid parent (Ended e) ending was now r is = absurd (cc)
parent-keeps-doom k next pid parent Gone ending was now r is = absurd (cc)
parent-keeps-doom k next pid parent (AQueue q) ending was now r is = absurd (cc)
parent-keeps-doom k next pid parent (ASet s) ending was now r is = absurd (cc)
parent-keeps-doom k next pid parent Removed ending was now r is = absurd (cc)

-- Each process that lives after an end is doomed where it was.
pub end-keeps-doom : (k next : Kernel) (pid parent : ℕ) (row : Row) (body : Body) (ending : Ending)
    → body_in k (Proc parent) ≡ body → EndBodies k next pid parent row body ending → (q : ℕ) → q ≢ pid
    → KeepsDoom k next q
end-keeps-doom k next pid parent row body ending was e q other =
    elim (cases_eq q parent) [
      | inl same ↦
          subst (λ n. KeepsDoom k next n) (sym same) (parent-keeps-doom k next pid parent body ending was e.its)
      | inr away ↦ by-among away (is_among row.family.ended q) refl
    ]
  where
    by-among : q ≢ parent → (t : Bool) → is_among row.family.ended q ≡ t → KeepsDoom k next q
    by-among away true among r is = absurd (gone-is-no-row r (sym (e.children q other away among) ∙ is))
      where
        gone-is-no-row : (r : Row) → Gone ≡ LivingBody r → ⊥
        gone-is-no-row r h = cc
    by-among away false none r is = (r, sym (e.others q other away none) ∙ is, refl)

-- and so on
pub doom-on : (k mid next : Kernel) (q : ℕ) → KeepsDoom k mid q → KeepsDoom mid next q → KeepsDoom k next q
doom-on k mid next q first second r is =
    let b = second r is in let a = first b.0 b.1 in (a.0, a.1, b.2 ∙ a.2)

-- ---- the kernel in which callers wait

module _ (script : Script) (w : World) (hand : List Held) {owes : Owing} (b : Beside)
    (holds : HoldsOwing script w hand owes b) (parcel : Parcel) (c : ℕ) (call : Call) (place : DeedPlace)
    (parcel_is : HasParcel script w b parcel c call place) (reads : DeedsAreRead b.kernel b.body) (x : ℕ)
    (parent_at : b.deed (Proc parcel.parent) ≡ InTable x) (whole : HasWhole w b) where
  abbrev its_end : EndsWhole b.whole (b.pids c) parcel.call (ending_of parcel.call)
  its_end = whole-end script w hand b holds parcel c call place parcel_is reads x parent_at whole

  abbrev outcome : Outcome
  outcome = end_outcome script w hand b holds parcel c call place parcel_is reads x parent_at whole

  abbrev entry : Entry
  entry = exit_entry script w hand b holds parcel c call place parcel_is reads x parent_at

  entry-is : entry ≡ entry_with x (b.pids c) parcel.call outcome
  entry-is =
      ap (λ pid. entry_with x pid parcel.call outcome)
      (pid-is script w hand b holds parcel c call place parcel_is reads x parent_at)

  apart : (y : ℕ) → y ≢ c → b.pids y ≢ b.pids c
  apart y other e =
      let pids = holds.pids
      in other (sym (pids.apart c y (parcel-forked script w hand b holds parcel c call place parcel_is) (sym e)))

  -- What there is to show of the world afterwards, with the lines that the entry has: that it stands beside it, but for
  -- the kernel in which callers wait and for withdrawals; and where the calls of others are.
  pub record IsExited (w' : World) (hand' : List Held) (b' : Beside) (lines : List Entry) : Type 0 where
    pub done : HoldsOwing script w' hand' Wakes b'
    pub journal : w'.journal ≡ w.journal ++ entry ∷ []
    pub lines_are : b'.lines ≡ b.lines ++ lines
    pub lines_of_it : lines_of b.whole entry ≡ lines
    pub may : MayMakeLines b.kernel (lines_of b.whole entry)
    pub whole_is : b'.whole ≡ its_end.next
    pub pids_are : (y : ℕ) → b'.pids y ≡ b.pids y
    pub waiters_are : (name : Name) → waiters_of (b'.body name) ≡ waiters_of (b.body name)
    pub ended : living_at b'.kernel (b.pids c) ≡ None
    pub dead : (y : ℕ) → y ≢ c → living_at b.kernel (b.pids y) ≡ None → living_at b'.kernel (b.pids y) ≡ None
    pub woken : (y : ℕ) → y ≢ c → woken_in (b.pids y) outcome.woken ≡ true → (a : whole_rows.Alive)
        → a.marks.parked ≡ None → HasMarks (b'.call y) (under_way_at w' y) a
    pub others : (y : ℕ) → y ≢ c → woken_in (b.pids y) outcome.woken ≡ false → (a : whole_rows.Alive)
        → HasMarks (b.call y) (under_way_at w y) a → HasMarks (b'.call y) (under_way_at w' y) a

  module _ (w' : World) (hand' : List Held) (b' : Beside) (lines : List Entry) (e : IsExited w' hand' b' lines) where
    -- the entry is one of the kernel in which callers wait
    pub exit-enters : EntersWith w w' b b' x c parcel.call outcome
    exit-enters =
        record {
          step = whole-steps script w hand b holds parcel c call place parcel_is reads x parent_at whole
              (number_in outcome.own)
              ∙ ap (λ next. Some (successor next outcome)) (sym e.whole_is);
          may = subst (λ z. MayMakeLines b.kernel (lines_of b.whole z)) entry-is e.may;
          journal = e.journal ∙ ap (λ z. w.journal ++ z ∷ []) entry-is;
          lines = e.lines_are ∙ ap (λ ls. b.lines ++ ls) (sym e.lines_of_it ∙ ap (lines_of b.whole) entry-is);
          led = holds.history.legal;
          leads = e.done.history.legal;
          bodies = λ alike. bodies-kept b.whole b'.whole b'.kernel alike
              (subst (λ next. KeepsWaiters b.whole next) (sym e.whole_is) its_end.keeps) b.body b'.body whole.bodies
              (λ name. let known : NameHolds script b'.pids (is_born_in w') name (name_sight script w' hand' b' name) =
              e.done.names name
              in known.parts)
              e.waiters_are;
          pids = e.pids_are;
          apart = apart;
          own_marks = λ alike a lives marks.
              let now : LivesPlain b'.kernel (b.pids c) a = lives-plain b'.whole b'.kernel (b.pids c) a alike lives
              in absurd (none-is-some now.alive (sym e.ended ∙ now.lives));
          woken = e.woken;
          others = e.others;
          dead = e.dead;
        }

    pub exit-whole : HasWhole w' b'
    exit-whole = entered-whole w w' b b' x c parcel.call outcome whole exit-enters

-- ---- the withdrawals

-- What is owed afterwards is what was owed, and of this node's call perhaps the strike of its process.
pub record OwesAlso (x : ℕ) (strikes : Bool) (owes owes' : Owing) : Type 0 where
  pub elsewhere : (y : ℕ) → y ≢ x → (is_owed owes y ≡ false) × (is_owed owes' y ≡ false)
  pub here_was : is_owed owes' x ≡ false → is_owed owes x ≡ false
  pub here : is_owed owes' x ≡ true → (is_owed owes x ≡ true) ⊎ (strikes ≡ true)

-- a strike owed before, or by the step, is all that is owed at the node afterwards
pub owes-also : (x : ℕ) (before strikes : Bool) → OwesAlso x strikes (owing_of x before)
    (owing_of x (before || strikes))
owes-also x before strikes =
    record {
      elsewhere = λ y d. (owed-of-others before x y d, owed-of-others (before || strikes) x y d);
      here_was = λ none. was before none;
      here = λ owed. is before owed;
    }
  where
    was : (t : Bool) → is_owed (owing_of x (t || strikes)) x ≡ false → is_owed (owing_of x t) x ≡ false
    was true none = none
    was false none = refl

    owes-only : (t : Bool) → is_owed (owing_of x t) x ≡ true → t ≡ true
    owes-only true owed = refl
    owes-only false owed = absurd (false≢true owed)

    is : (t : Bool) → is_owed (owing_of x (t || strikes)) x ≡ true
        → (is_owed (owing_of x t) x ≡ true) ⊎ (strikes ≡ true)
    is true owed = inl owed
    is false owed = inr (owes-only strikes owed)

-- a call that ends its process has no withdrawal but old ones
ends-uncancelled : (p : ℕ) (owes owes' : Owing) (s t : CancelSight) (call : Call) → SameCancel s t
    → s.caller.under_way ≡ Some call → is_end call ≡ true → t.call ≡ Ends → is_owed owes' p ≡ false
    → CancelHolds p owes s → CancelHolds p owes' t
ends-uncancelled p owes owes' s t call same under_way an_end ends none h =
    let kept : OldHold t =
    old-holds p owes s t
    (record {
      of = record { pid = same.pid; later = same-later s.caller t.caller same.caller };
      cancels = same.cancels;
      held_cancels = same.held_cancels;
      hand_cancels = same.hand_cancels;
    }) h
    in record {
      of_call = subst (λ o. OfCall p (is_owed owes' p) t t.call o)
          (sym (ap (λ (z : Caller). z.under_way) (sym same.caller) ∙ under_way))
          (subst (λ z. OfCall p (is_owed owes' p) t z (Some call)) (sym ends)
          (never call an_end
          (sym same.cancel ∙ never-cancelled p owes s call under_way (cannot call an_end) h)));
      frames = kept.frames;
      held = kept.held;
      hand = kept.hand;
      owed = λ owed some. absurd (false≢true (sym none ∙ owed));
    }
  where
    cannot : (z : Call) → is_end z ≡ true → may_be_withdrawn s.pid z ≡ false
    cannot (calls.Exit status) e = refl
    cannot (calls.Killed sig) e = refl
    cannot z e = absurd (false≢true e)

    never : (z : Call) → is_end z ≡ true → t.cancel ≡ NoCancel → OfCall p (is_owed owes' p) t Ends (Some z)
    never (calls.Exit status) e none_is = none_is
    never (calls.Killed sig) e none_is = none_is
    never z e none_is = absurd (false≢true e)

module _ (script : Script) (w : World) (hand : List Held) {owes : Owing} (b : Beside)
    (holds : HoldsOwing script w hand owes b) (parcel : Parcel) (c : ℕ) (call : Call) (place : DeedPlace)
    (parcel_is : HasParcel script w b parcel c call place) (reads : DeedsAreRead b.kernel b.body) (x : ℕ)
    (parent_at : b.deed (Proc parcel.parent) ≡ InTable x) (whole : HasWhole w b) (w' : World) (hand' : List Held)
    (b' : Beside) (lines : List Entry)
    (e : IsExited script w hand b holds parcel c call place parcel_is reads x parent_at whole w' hand' b' lines) where
  abbrev its-end : EndsWhole b.whole (b.pids c) parcel.call (ending_of parcel.call)
  its-end = whole-end script w hand b holds parcel c call place parcel_is reads x parent_at whole

  abbrev outcome_is : Outcome
  outcome_is = end_outcome script w hand b holds parcel c call place parcel_is reads x parent_at whole

  enters : EntersWith w w' b b' x c parcel.call outcome_is
  enters = exit-enters script w hand b holds parcel c call place parcel_is reads x parent_at whole w' hand' b' lines e

  -- the node where the parent's deed is isn't the one that has left
  pub other-node : x ≢ c
  other-node same =
      let n : NodeHolds script b.pids (is_born_in w) c (node_of w c) =
      holds.nodes c (low-node script w hand b holds parcel c call place parcel_is)
      (high-node script w hand b holds parcel c call place parcel_is)
      in let none : (node_of w c).deeds ≡ none_named =
      subst (λ stage. HoldsIn c (node_of w c) stage) parcel_is.stage n.holds
      in none-is-some (parent_body script w hand b holds parcel c call place parcel_is reads x parent_at)
      (sym (ap (λ ds. get_named ds (Proc parcel.parent)) (ap (λ q. deeds_at w q) same ∙ none))
      ∙ parent-here script w hand b holds parcel c call place parcel_is reads x parent_at)

  -- ---- the parent is struck

  abbrev n : Node
  n = node_of w x

  abbrev body : Body
  body = parent_body script w hand b holds parcel c call place parcel_is reads x parent_at

  row-is : (o : Option Body) (row : Row) → row_of o ≡ Some row → o ≡ Some (LivingBody row)
  row-is (Some (LivingBody r)) row h = ap (λ z. Some (LivingBody z)) (some-same h)
    where
      some-same : {u v : Row} → Some u ≡ Some v → u ≡ v
      some-same g = cc
  row-is (Some (Ended ending)) row h = absurd (none-is-some row h)
  row-is (Some Gone) row h = absurd (none-is-some row h)
  row-is (Some (AQueue q)) row h = absurd (none-is-some row h)
  row-is (Some (ASet s)) row h = absurd (none-is-some row h)
  row-is (Some Removed) row h = absurd (none-is-some row h)
  row-is None row h = absurd (none-is-some row h)

  strikes-row : (o : Option Row) → option_map_or child_strikes o false ≡ true
      → (row : Row) × (o ≡ Some row) × (child_strikes row ≡ true)
  strikes-row (Some row) h = (row, refl, h)
  strikes-row None h = absurd (false≢true h)

  both : (p q : Bool) → (p && q) ≡ true → (p ≡ true) × (q ≡ true)
  both true q h = (refl, h)
  both false q h = absurd (false≢true h)

  not-true : (p : Bool) → not p ≡ true → p ≡ false
  not-true false h = refl
  not-true true h = absurd (false≢true h)

  -- where the end strikes the node's process, that is struck in the kernel in which callers wait
  pub end-struck : is_struck_by_end n parcel.parent ≡ true → is_struck (whole_kernels.living_at b'.whole (b.pids x)) ≡
      true
  end-struck h =
      let two = both (nat_eq parcel.parent n.pid) (option_map_or child_strikes (own_row n) false) h
      in let row = strikes-row (own_row n) two.1
      in let minds = both (not (ignores_children row.0)) (strikes row.0.signals Chld) row.2
      in let is : body ≡ LivingBody row.0 =
      some-body
      (sym (parent-here script w hand b holds parcel c call place parcel_is reads x parent_at)
      ∙ ap (λ q. get_named n.deeds (Proc q)) (eqb-true parcel.parent n.pid two.0)
      ∙ row-is (get_named n.deeds (Proc n.pid)) row.0 row.1)
      in let p = parent_alike script w hand b holds parcel c call place parcel_is reads x parent_at row.0 is whole
      in let l = parent-lives script w hand b holds parcel c call place parcel_is reads x parent_at row.0 is
      in let r : HasRow b.kernel parcel.parent row.0 =
      has-row script w hand b holds parcel c call place parcel_is reads x parent_at row.0 is
      in let same : p.alive.row ≡ row.0 = p.row ∙ r.row_is
      in let s : IsStruck its-end.next parcel.parent =
      end-strikes b.whole (b.pids c) parcel.parent p.alive parcel.call (ending_of parcel.call) 0 _ whole.sound
      (its-end.step 0)
      (ending-known parcel.call
      (ap is_end (let q = parcel_is.is_of in q.call_is)
      ∙ is-an-end script w hand b holds parcel c call place parcel_is)) p.lives
      (ap (λ (z : Row). lists z.family (b.pids c)) same
      ∙ ap (lists row.0.family) (sym (pid-is script w hand b holds parcel c call place parcel_is reads x parent_at))
      ∙ l.listed)
      (ap ignores_children same ∙ not-true (ignores_children row.0) minds.0)
      (ap (λ (z : Row). strikes z.signals Chld) same ∙ minds.1)
      in ap (λ k. is_struck (whole_kernels.living_at k (b.pids x))) e.whole_is
      ∙ ap (λ q. is_struck (whole_kernels.living_at its-end.next q)) (sym l.pid_is) ∙ ap is_struck s.lives ∙ s.struck
    where
      some-body : {u v : Body} → Some u ≡ Some v → u ≡ v
      some-body g = cc

  -- ---- each call's

  -- of a call that isn't woken, at another node than the one that has left
  module _ (owes' : Owing) (also : OwesAlso x (is_struck_by_end n parcel.parent) owes owes') (y : ℕ) (s : CancelSight)
      (alive_is : s.alive ≡ whole_kernels.living_at b.whole (b.pids y))
      (same : SameCancel s (cancel_sight w' hand' b' y)) (h : CancelHolds y owes s) where
    abbrev t : CancelSight
    t = cancel_sight w' hand' b' y

    alive-now : t.alive ≡ whole_kernels.living_at b'.whole (b.pids y)
    alive-now = ap (whole_kernels.living_at b'.whole) (e.pids_are y)

    module _ (other : y ≢ c) (asleep : woken_in (b.pids y) outcome_is.woken ≡ false)
        (doom : KeepsDoom b.kernel b'.kernel (b.pids y)) where
      away : b.pids y ≢ b.pids c
      away = enters.apart y other

      struck-still : is_struck s.alive ≡ true → is_struck t.alive ≡ true
      struck-still struck =
          ap is_struck alive-now
          ∙ still-struck w w' b b' x c parcel.call outcome_is whole enters (b.pids y) away asleep
          (ap is_struck (sym alive_is) ∙ struck)

      still-owed-here : StaysOwed y owes owes' s t
      still-owed-here =
          record {
            owed = λ none. elim (cases_eq y x) [
              | inl z ↦
                  subst (λ q. is_owed owes q ≡ false) (sym z) (also.here_was (ap (is_owed owes') (sym z) ∙ none))
              | inr d ↦ (also.elsewhere y d).0
            ];
            struck = struck-still;
            doomed = λ none doomed. ap is_doomed alive_is
                ∙ was-doomed w w' b b' x c parcel.call outcome_is whole enters (b.pids y) doom
                (ap is_doomed (sym alive-now) ∙ doomed);
            strikes = λ owed some. elim (cases_eq y x) [
              | inr d ↦ absurd (false≢true (sym (also.elsewhere y d).1 ∙ owed))
              | inl z ↦
                  elim (also.here (ap (is_owed owes') (sym z) ∙ owed)) [
                    | inl was ↦
                        struck-still
                        (h.owed (ap (is_owed owes) z ∙ was)
                        (ap (λ (k : Caller). is_some k.under_way) same.caller ∙ some))
                    | inr by_end ↦
                        ap is_struck alive-now
                        ∙ ap (λ q. is_struck (whole_kernels.living_at b'.whole (b.pids q))) z ∙ end-struck by_end
                  ]
            ];
          }

      pub exit-cancel : CancelHolds y owes' t
      exit-cancel = cancel-stays y owes owes' s t same still-owed-here h

    -- of the one that has ended its process
    pub ended-cancel : (z : Call) → y ≡ c → s.caller.under_way ≡ Some z → is_end z ≡ true → t.call ≡ Ends
        → CancelHolds y owes' t
    ended-cancel z is under_way an_end ends =
        ends-uncancelled y owes owes' s t z same under_way an_end ends
        ((also.elsewhere y (λ at. other-node (sym at ∙ is))).1) h
