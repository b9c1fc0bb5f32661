-- A turn of the parts as one of the whole node.
use Rattle.std.proofs.Common.{◌≡◌, ℕ, zero, suc, ◌+◌, ◌≤◌, true, ◌||◌, nat_eq, List, [], ◌∷◌, map, Option, Some, None, IsSome, Result, Ok, Err, OnOk, length, refl, sym, ap, subst, ◌∙◌, arith}
use Rattle.std.proofs.lemmas.Bool.{false≢true}
use Rattle.std.specs.Prelude.{vec_capacity, IfSome}
use Rattle.pico_base.specs.declared.script.Script.{Script}
use Rattle.stream_pair.specs.Ends.{after_looks}
use Rattle.log_model.specs.declared.answer.LogFault.{LogFault}
use Rattle.world_model.specs.Node.{Node}
use Rattle.log_model.specs.declared.answer.TurnAnswer.TheVariants.{Idle}
use Rattle.log_model.specs.declared.found.Found.TheVariants.{Nothing}
use Rattle.log_model.specs.Views.{Line, LoggedNode}
use Rattle.log_model.specs.Looks.{after_nothing}
use Rattle.log_model.specs.Forkers.{forker_of}
use Rattle.log_model.specs.Logged.{IsOfScript}
use Rattle.log_model.specs.Turns.{IsTurn, IsTurnOrSpent, Turned, TurnsFrom, may_take, one_more_quiet}
use Rattle.node_lines.specs.Lines.{AreSameLines, after_silences}
use Rattle.node_lines.proofs.Silences.{Looks-silence}
use Rattle.node_log.specs.declared.logged.Logged.TheInside.{Inside}
use Rattle.node_log.specs.declared.made.Made.{Made}
use Rattle.node_log.specs.declared.works.Works.{Works}
use Rattle.node_log.specs.Inside.{logged_of, IsWhole}
use Rattle.node_log.specs.Steps.{AreIdleTurns, IsIdleTurn, IsSameSeat, IsWaiting}
use Rattle.node_log.specs.Parts.{IsSamePlace, view_with, answer_after, fault_after, quiet_after}
use Rattle.node_log.proofs.Places.{count-same, lines-again, lines-same, of_script-after, others-same}

-- the node after a turn of its parts
abbrev pub inside_after : Inside → Works → Result Made LogFault → Inside
inside_after old works result =
    record old { works = works; silent = 0; quiet = quiet_after old.quiet result; fault = fault_after result }

-- the node after a turn that found nothing, which no stream has counted
abbrev pub inside_idle : Inside → Inside
inside_idle old = record old { silent = suc old.silent; quiet = one_more_quiet old.quiet }

-- the parts with the looks that were made at all streams together
pub record IsCounted (old : Inside) (works : Works) : Type 0 where
  pub lines : works.lines.items ≡ after_silences old.silent old.works.lines.items
  pub same : works ≡ record old.works { lines = works.lines }

-- are seen as the node was
pub counted-is : (old : Inside) (works : Works) → IsCounted old works
    → logged_of old ≡ view_with works old.quiet old.fault
counted-is old works h =
    ap (λ ls. record (logged_of old) { lines = ls }) (sym h.lines)
    ∙ ap (λ w. view_with w old.quiet old.fault) (sym h.same)

none-by : {X : Type 0} (o : Option X) → ((x : X) → o ≡ Some x → ⊥) → o ≡ None
none-by None h = refl
none-by (Some x) h = absurd (h x refl)

-- one more look at each stream, all of which may be looked at
idle-is : (script : Script) (old : Inside) (node : Option Node) → old.works.node ≡ node → IsSome node
    → IfSome node IsWaiting
    → IsTurn script (record (logged_of old) { fault = None }) (record (logged_of (inside_idle old)) { fault = None })
    Idle
idle-is script old None here whole waits = absurd (false≢true whole)
idle-is script old (Some n) here whole waits =
    let lines = after_silences old.silent old.works.lines.items in
    let each : (other : ℕ) → may_take script old.works.number n other ≡ true =
    λ other. ap (λ b. b || nat_eq other (forker_of script old.works.number)) waits.0
    in
    record {
      node = n;
      here = here;
      found = Nothing;
      lines = map after_nothing lines;
      looks = Looks-silence (may_take script old.works.number n) lines each;
      ends = (refl, waits.1, refl);
    }

-- what the parts did is a turn of the whole node
pub turned-after : (script : Script) (old : Inside) (counted works : Works) (result : Result Made LogFault)
    → ((fault : LogFault) → old.fault ≡ Some fault → ⊥) → IsCounted old counted
    → ((quiet : ℕ) → IsTurnOrSpent script (view_with counted quiet None)
    (view_with works (quiet_after quiet result) (fault_after result)) (answer_after result))
    → Turned script (logged_of old) (logged_of (inside_after old works result)) (answer_after result)
turned-after script old counted works result none is_counted turned =
    let new = logged_of (inside_after old works result) in
    let P : Option LogFault → Type 0 =
    λ fault. TurnsFrom fault script (view_with counted old.quiet fault) new (answer_after result)
    in
    let Q : LoggedNode → Type 0 = λ node. Turned script node new (answer_after result) in
    subst Q (sym (counted-is old counted is_counted)) (subst P (sym (none-by old.fault none)) (turned old.quiet))

-- a born node that can run nothing, and whose streams are silent, makes a turn that finds nothing
pub turned-idle : (script : Script) (old : Inside) → ((fault : LogFault) → old.fault ≡ Some fault → ⊥)
    → IsSome old.works.node → IfSome old.works.node IsWaiting
    → Turned script (logged_of old) (logged_of (inside_idle old)) Idle
turned-idle script old none whole waits =
    let new = logged_of (inside_idle old) in
    let P : Option LogFault → Type 0 = λ fault.
    TurnsFrom fault script (record (logged_of old) { fault = fault }) (record new { fault = fault }) Idle
    in
    subst P (sym (none-by old.fault none)) (idle-is script old old.works.node refl whole waits)

node-after : (result : Result Made LogFault) (P : Type 0) → OnOk result P → fault_after result ≡ None → P
node-after (Ok made) P h e = h
node-after (Err fault) P h e = absurd (cc)

-- ---- it is the node that it was

-- lines are the same after a look at each that found nothing
lines-silent : (lines : List Line) → AreSameLines lines (map after_nothing lines)
lines-silent [] = tt
lines-silent (line ∷ lines) = (record { other = refl; out = refl; into = refl }, lines-silent lines)

-- and after so many
pub lines-silences : (looks : ℕ) (lines : List Line) → AreSameLines lines (after_silences looks lines)
lines-silences zero lines = lines-same lines
lines-silences (suc looks) lines =
    let before = after_silences looks lines in
    lines-again lines before (map after_nothing before) (lines-silences looks lines) (lines-silent before)

-- the parts are in the place of the whole node
pub record IsSameNode (old new : LoggedNode) : Type 0 where
  pub number : new.number ≡ old.number
  pub lines : AreSameLines old.lines new.lines
  pub seat : IsSameSeat old.seat new.seat

pub same-node : (old : Inside) (counted works : Works) (result : Result Made LogFault) → IsCounted old counted
    → IsSamePlace counted works → IsSameNode (logged_of old) (logged_of (inside_after old works result))
same-node old counted works result is_counted same =
    let P : LoggedNode → Type 0 = λ node. IsSameNode node (logged_of (inside_after old works result)) in
    subst P (sym (counted-is old counted is_counted))
    (record { number = same.number; lines = same.lines; seat = same.seat })

-- and so it is after a turn that found nothing
pub same-idle : (old : Inside) → IsSameNode (logged_of old) (logged_of (inside_idle old))
same-idle old =
    let lines = after_silences old.silent old.works.lines.items in
    record { number = refl; lines = lines-silent lines; seat = (refl, refl) }

-- there is room for its ends, with the looks that were made at all streams together
pub room-counted : (old : Inside) (counted : Works) → IsWhole old → IsCounted old counted
    → length counted.lines.items ≤ vec_capacity old.room
room-counted old counted h is_counted =
    let room : length old.works.lines.items ≤ vec_capacity old.room = h.room in
    let before = count-same old.works.lines.items (after_silences old.silent old.works.lines.items)
    (lines-silences old.silent old.works.lines.items)
    in
    let between : length counted.lines.items ≡ length (after_silences old.silent old.works.lines.items) =
    ap length is_counted.lines
    in
    omega (arith, room, before, between)

-- its node isn't spent where there is no fault
pub whole-yet : (old : Inside) → IsWhole old → ((fault : LogFault) → old.fault ≡ Some fault → ⊥)
    → IsSome old.works.node
whole-yet old h none = h.node (none-by old.fault none)

-- its ends have room still, and it isn't spent where there was no fault
pub whole-after : (old : Inside) (counted works : Works) (result : Result Made LogFault) → IsWhole old
    → IsCounted old counted → IsSamePlace counted works → OnOk result (IsSome works.node)
    → IsWhole (inside_after old works result)
whole-after old counted works result h is_counted same node =
    record {
      empty = h.empty;
      room =
          let room = room-counted old counted h is_counted in
          let behind = count-same counted.lines.items works.lines.items same.lines in
          omega (arith, room, behind);
      node = node-after result (IsSome works.node) node;
    }

-- its parts are of the script, with the looks that were made at all streams together
pub script-counted : (script : Script) (old : Inside) (counted : Works) (quiet : ℕ) (fault : Option LogFault)
    → IsOfScript script (logged_of old) → IsCounted old counted
    → IsOfScript script (view_with counted quiet fault)
script-counted script old counted quiet fault h is_counted =
    let e = counted-is old counted is_counted in
    let now : IsOfScript script (view_with counted old.quiet old.fault) = subst (IsOfScript script) e h in
    record { low = now.low; high = now.high; others = now.others; forker = now.forker }

-- and behind a turn of its parts
pub script-after : (script : Script) (old : Inside) (counted works : Works) (result : Result Made LogFault)
    → IsOfScript script (logged_of old) → IsCounted old counted → IsSamePlace counted works
    → ((q : ℕ) → works.forker ≡ Some q → q ≡ forker_of script counted.number)
    → IsOfScript script (logged_of (inside_after old works result))
script-after script old counted works result h is_counted same known =
    of_script-after script counted works old.quiet (quiet_after old.quiet result) old.fault (fault_after result)
    (script-counted script old counted old.quiet old.fault h is_counted) same known

-- and behind a turn that found nothing
pub script-idle : (script : Script) (old : Inside) → IsOfScript script (logged_of old)
    → IsOfScript script (logged_of (inside_idle old))
script-idle script old h =
    record {
      low = h.low;
      high = h.high;
      others = others-same _ _ (lines-silent (after_silences old.silent old.works.lines.items)) ∙ h.others;
      forker = h.forker;
    }

-- ---- turns that found nothing, one behind the other

-- the node after so many of them
abbrev pub inside_waited : ℕ → Inside → Inside
inside_waited zero old = old
inside_waited (suc count) old = inside_idle (inside_waited count old)

-- as it is noted at once
pub waited-is : (count : ℕ) (old : Inside)
    → inside_waited count old
    ≡ record old { silent = count + old.silent; quiet = after_looks count old.quiet }
waited-is zero old =
    let none : old.silent ≡ 0 + old.silent = omega arith in
    ap (λ (silent : ℕ). record old { silent = silent }) none
waited-is (suc count) old =
    let more : suc (count + old.silent) ≡ suc count + old.silent = omega arith in
    ap inside_idle (waited-is count old)
    ∙ ap (λ (silent : ℕ). record old { silent = silent; quiet = after_looks (suc count) old.quiet }) more

waited-works : (count : ℕ) (old : Inside) → (inside_waited count old).works ≡ old.works
waited-works zero old = refl
waited-works (suc count) old = waited-works count old

waited-fault : (count : ℕ) (old : Inside) → (inside_waited count old).fault ≡ old.fault
waited-fault zero old = refl
waited-fault (suc count) old = waited-fault count old

waited-script : (script : Script) (count : ℕ) (old : Inside) → IsOfScript script (logged_of old)
    → IsOfScript script (logged_of (inside_waited count old))
waited-script script zero old h = h
waited-script script (suc count) old h =
    script-idle script (inside_waited count old) (waited-script script count old h)

-- one of them
idle-turn : (script : Script) (old : Inside) → ((fault : LogFault) → old.fault ≡ Some fault → ⊥)
    → IsSome old.works.node → IfSome old.works.node IsWaiting → IsOfScript script (logged_of old)
    → IsIdleTurn script (logged_of old) (logged_of (inside_idle old))
idle-turn script old none whole waits h =
    let same = same-idle old in
    record {
      turned = turned-idle script old none whole waits;
      of_script = script-idle script old h;
      number = same.number;
      lines = same.lines;
      seat = same.seat;
    }

-- and so many
pub waited-turns : (script : Script) (count : ℕ) (old : Inside)
    → ((fault : LogFault) → old.fault ≡ Some fault → ⊥) → IsSome old.works.node → IfSome old.works.node IsWaiting
    → IsOfScript script (logged_of old)
    → AreIdleTurns script count (logged_of old) (logged_of (inside_waited count old))
waited-turns script zero old none whole waits h = refl
waited-turns script (suc count) old none whole waits h =
    let mid = inside_waited count old in
    let works = waited-works count old in
    let now : (fault : LogFault) → mid.fault ≡ Some fault → ⊥ =
    λ fault e. none fault (sym (waited-fault count old) ∙ e)
    in
    record {
      mid = logged_of mid;
      before = waited-turns script count old none whole waits h;
      idle =
          idle-turn script mid now (subst (λ w. IsSome w.node) (sym works) whole)
          (subst (λ w. IfSome w.node IsWaiting) (sym works) waits) (waited-script script count old h);
    }

no-fault : (o : Option LogFault) → o ≡ None → (fault : LogFault) → o ≡ Some fault → ⊥
no-fault None none fault some = cc
no-fault (Some x) none fault some = cc

-- noted at once
pub noted-turns : (script : Script) (count : ℕ) (old : Inside) → old.fault ≡ None → IfSome old.works.node IsWaiting
    → IsSome old.works.node → IsOfScript script (logged_of old)
    → AreIdleTurns script count (logged_of old)
    (logged_of (record old { silent = old.silent + count; quiet = after_looks count old.quiet }))
noted-turns script count old none waits whole h =
    let sums : count + old.silent ≡ old.silent + count = omega arith in
    let noted : ℕ → Inside = λ silent. record old { silent = silent; quiet = after_looks count old.quiet } in
    subst (λ inside. AreIdleTurns script count (logged_of old) (logged_of inside))
    (waited-is count old ∙ ap noted sums)
    (waited-turns script count old (no-fault old.fault none) whole waits h)
