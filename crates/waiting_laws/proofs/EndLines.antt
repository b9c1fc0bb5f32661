-- The end of a process, in line: the end itself, and then the `waitpid` of its parent, if that is woken.
use Rattle.std.proofs.Common.{◌≡◌, ◌≢◌, ◌∙◌, ℕ, Bool, true, false, not, List, [], ◌∷◌, ◌++◌, map, Option, Some, None, refl, ap, sym, subst, inl, inr}
use Rattle.std.specs.Prelude.{if◌then◌else◌, fold}
use Rattle.std.specs.Option.{option_and_then}
use Rattle.std.proofs.lemmas.Bool.{cases_eq, false≢true, true≢false}
use Rattle.pico_base.specs.declared.call.Call.{Call}
use Rattle.pico_base.specs.declared.call.Call.TheVariants as calls
use Rattle.pico_base.specs.declared.reply.Ending.{Ending}
use Rattle.pico_base.specs.declared.reply.Entry.{Entry}
use Rattle.pico_base.specs.declared.reply.Errno.TheVariants.{Echild}
use Rattle.pico_base.specs.declared.reply.Reply.{Reply}
use Rattle.pico_base.specs.declared.reply.Reply.TheVariants as replies
use Rattle.pico_base.specs.declared.signal.Sig.TheVariants.{Chld}
use Rattle.number_maps.specs.Maps.{Numbered, get, put}
use Rattle.number_maps.specs.Rising.{IsRising}
use Rattle.number_maps.proofs.Changes.{put-put}
use Rattle.number_maps.proofs.LookUps.{get-put-same, get-put-other}
use Rattle.kernel_model.specs.Effect as plain_effects
use Rattle.kernel_model.specs.Effect.{reply_alone}
use Rattle.kernel_model.specs.History.{number_in}
use Rattle.kernel_model.specs.Kernel as plain
use Rattle.kernel_model.specs.ProcessCalls as plain_calls
use Rattle.kernel_model.specs.Row.{Allowance, EndedChild, Family, Waited, Found, NotYet, NoChild, family_after_end, ignores_children, lists, wait, without_ended}
use Rattle.kernel_model.specs.Row as plain_rows
use Rattle.kernel_model.specs.Transition as plain_steps
use Rattle.kernel_model.specs.Transition.{is_spent}
use Rattle.kernel_laws.proofs.EndChanges.{parent-is}
use Rattle.kernel_laws.proofs.People.{from-living as plain-from-living}
use Rattle.waiting_model.specs.declared.callers.Wake.{Wake}
use Rattle.waiting_model.specs.Marks.{Alive, awaited_children, with_family}
use Rattle.waiting_model.specs.Kernel.{Kernel, Process, Living, Gone, Parent, alive_in, living_at, living_in, parent_in}
use Rattle.waiting_model.specs.Effect.{Effect, woken_pair}
use Rattle.waiting_model.specs.Linear.{LeadInLine, LeadsTo, Does, at_once, line_of}
use Rattle.waiting_model.specs.ProcessCalls.{after_waiting, bury, bury_all, bury_found, end_process, end_under, found_after_end, found_for, process_after_end, raise_chld, wakes_of_parent, wakes_under}
use Rattle.waiting_laws.specs.InLine.{AlikeProcess, AlikeAt}
use Rattle.waiting_laws.specs.Lines.{MayMakeLine, MayMakeLines, marked_line, own_line, wait_lines}
use Rattle.waiting_laws.specs.Parked.{mark_in, mark_of}
use Rattle.waiting_laws.proofs.Fair.{IsFair, OthersFair, fair-buried, fair-chld, fair-finished, fair-other, fair-over, fair-own, fair-waiting}
use Rattle.waiting_laws.proofs.OwnLines.{SameAllowance, raised-allowance, with_row}
use Rattle.waiting_laws.proofs.Parents.{OneParent, ParentsAlike, SameParent, parents-alike}
use Rattle.waiting_laws.proofs.People.{AllOver, IsOver, Moves, OverFound, ParentView, People, all-over-put-over, bury-moves, living-bury, living-differs, living-put-other, over-after-end, over-found, over-process, parent-view}
use Rattle.waiting_laws.proofs.Rows.{AliveAlike, LivesAlike, RowsAlike, alike-finished, alike-living, in_form, plain-finished, rows-put, rows-put-left, rows-spent, spent_in, spent-other}
use Rattle.waiting_laws.proofs.Standing.{InBoth, StandsInLine, same-line, stands-same}
use Rattle.waiting_laws.proofs.Steps.{plain-step-is}

-- ---- what a parent's call finds

-- it waits for children, and this is what it finds
record Awaits (parked : Option Call) (f : Family) (w : Waited) : Type 0 where
  child : Option ℕ
  nohang : Bool
  is : parked ≡ Some (calls.WaitPid child nohang)
  finds : wait f child ≡ w

abbrev is_found : Waited → Bool
is_found NotYet = false
is_found w = true

awaits : (parked : Option Call) (f : Family) (w : Waited) → found_for f (awaited_children parked) ≡ w
    → is_found w ≡ true → Awaits parked f w
awaits None f w is found = absurd (false≢true (ap is_found is ∙ found))
awaits (Some (calls.WaitPid child nohang)) f w is found =
    record { child = child; nohang = nohang; is = refl; finds = is }
awaits (Some call) f w is found = absurd (false≢true (ap is_found is ∙ found))

-- ---- the parent's row

ending-alike : (b : Bool) (ending : Ending)
    → AlikeProcess (process_after_end b ending) (plain_calls.process_after_end b ending)
ending-alike true ending = tt
ending-alike false ending = refl

abbrev told : Bool → plain_rows.Alive → plain_rows.Alive
told ignored u = if ignored then u else plain_rows.raise_by_other u Chld

-- CHLD is raised in both
told-alike : (b : Bool) (x : Alive) (al : Allowance) → SameAllowance x al
    → AliveAlike (raise_chld b x) (told b (with_row x.row al))
told-alike true x al same = (refl, same)
told-alike false x al same = (refl, λ none. raised-allowance x.row.signals Chld x.marks.allowance al same none)

-- and a child that is found is forgotten, before or after
found-alike : (b : Bool) (x : Alive) (al : Allowance) (child : ℕ) (ending : Ending) → SameAllowance x al
    → AliveAlike (raise_chld b (after_waiting x (Found child ending)))
    (plain_calls.parent_after_wait (told b (with_row x.row al)) child)
found-alike true x al child ending same = (refl, same)
found-alike false x al child ending same =
    (refl, λ none. raised-allowance x.row.signals Chld x.marks.allowance al same none)

told-family : (b : Bool) (u : plain_rows.Alive) → (told b u).row.family ≡ u.row.family
told-family true u = refl
told-family false u = refl

-- who may act may still
pub raised-unspent : (before now : Bool) (al : Allowance) → is_spent al ≡ false
    → is_spent (plain_rows.allowance_after_raise before now al) ≡ false
raised-unspent true now al h = h
raised-unspent false true al h = refl
raised-unspent false false al h = h

told-unspent : (b : Bool) (u : plain_rows.Alive) → is_spent u.allowance ≡ false → is_spent (told b u).allowance ≡ false
told-unspent true u h = h
told-unspent false u h = raised-unspent _ _ u.allowance h

not-spent : (b : Bool) → not b ≡ true → b ≡ false
not-spent true h = absurd (false≢true h)
not-spent false h = refl

-- ---- children that are buried

rows-buried : (es : List EndedChild) (ps : Numbered Process) (qs : Numbered plain.Process) → RowsAlike ps qs
    → RowsAlike (fold bury ps es) (fold plain_calls.bury qs es)
rows-buried [] ps qs h = h
rows-buried (e ∷ es) ps qs h =
    rows-buried es (put ps e.pid Gone) (put qs e.pid plain.Gone) (rows-put ps qs h e.pid Gone plain.Gone tt)

-- one process and then another, or the other way round
swapped : (m : Numbered Process) (n c : ℕ) (y0 y x : Process) → c ≢ n → (q : ℕ)
    → get (put (put (put m n y0) n y) c x) q ≡ get (put (put m c x) n y) q
swapped m n c y0 y x ne q =
    elim (cases_eq q c) [
      | inl here ↦
          subst
          (λ (i : ℕ). get (put (put (put m n y0) n y) c x) i ≡ get (put (put m c x) n y) i) (sym here)
          (get-put-same (put (put m n y0) n y) c x
          ∙ sym (get-put-other (put m c x) n y c ne ∙ get-put-same m c x))
      | inr other ↦
          get-put-other (put (put m n y0) n y) c x q other
          ∙ (ap (λ (r : Numbered Process). get r q) (put-put m n y0 y) ∙ at_parent q other)
    ]
  where
    at_parent : (q : ℕ) → q ≢ c → get (put m n y) q ≡ get (put (put m c x) n y) q
    at_parent q other =
        elim (cases_eq q n) [
          | inl there ↦
              subst (λ (i : ℕ). get (put m n y) i ≡ get (put (put m c x) n y) i) (sym there)
              (get-put-same m n y ∙ sym (get-put-same (put m c x) n y))
          | inr away ↦
              get-put-other m n y q away
              ∙ sym (get-put-other (put m c x) n y q away ∙ get-put-other m c x q other)
        ]

rows-swapped : (m : Numbered Process) (r : Numbered plain.Process) (n c : ℕ) (y0 y x : Process) (y' x' : plain.Process)
    → RowsAlike (put m n y0) r → c ≢ n → AlikeProcess y y' → AlikeProcess x x'
    → RowsAlike (put (put m c x) n y) (put (put r n y') c x')
rows-swapped m r n c y0 y x y' x' h ne like_y like_x q =
    subst (λ (o : Option Process). AlikeAt o (get (put (put r n y') c x') q)) (swapped m n c y0 y x ne q)
    (rows-put (put (put m n y0) n y) (put r n y') (rows-put (put m n y0) r h n y y' like_y) c x x' like_x q)

-- ---- the end

-- What is asked: those facts, and that the call ends its process, in the other kernel too.
pub record MayEndIn (k : Kernel) (qs : Numbered plain.Process) (pid : ℕ) (call : Call) (ending : Ending) : Type 0 where
  pub both : InBoth k qs
  pub people : People k.processes
  pub one : OneParent k
  pub rising : IsRising qs
  pub ends : (b : plain_rows.Alive) (n : ℕ)
      → plain_steps.effect (in_form k qs) pid b (at_once call) n
      ≡ Some (plain_calls.end_process (in_form k qs) pid b ending)

module _ (k : Kernel) (qs : Numbered plain.Process) (node pid : ℕ) (call : Call) (ending : Ending)
    (st : MayEndIn k qs pid call ending) (a : Alive) (lives : living_at k pid ≡ Some a)
    (unparked : a.marks.parked ≡ None) where
  abbrev bs : Numbered Process
  bs = bury_all k.processes a.row.family

  abbrev bqs : Numbered plain.Process
  bqs = plain_calls.bury_all qs a.row.family

  buried : RowsAlike bs bqs
  buried = rows-buried a.row.family.ended k.processes qs st.both.alike

  others-fair : OthersFair pid bs
  others-fair = fair-buried pid a.row.family.ended k.processes (λ q ne. st.both.fair q)

  abbrev lines : Option Reply → List Wake → List Entry
  lines own wakes = own_line node pid call own ++ wait_lines k node (map woken_pair wakes)

  -- the effect, by the parent
  abbrev ended_by : Option Parent → Effect
  ended_by o =
      record {
        kernel = record k { processes = end_under bs pid ending o };
        own = Some replies.Ended;
        wakes = wakes_under pid ending o;
      }

  abbrev plainly_ended : Option plain.Parent → plain_effects.Effect
  plainly_ended o =
      record {
        kernel = record (in_form k qs) { processes = plain_calls.end_under bqs pid ending o };
        reply = replies.Ended;
      }

  -- the caller, as the other kernel has it
  its : LivesAlike (get qs pid) a
  its = alike-living k.processes qs st.both.alike pid a lives

  plain-ends : (o : Option plain.Parent) → plain.parent_in pid qs ≡ o
      → plain_steps.effect (in_form k qs) pid its.alive (at_once call) 0 ≡ Some (plainly_ended o)
  plain-ends o is =
      st.ends its.alive 0
      ∙ (ap
      (λ (row : plain_rows.Row).
      (let e : Option plain_effects.Effect =
      Some (record {
        kernel = record (in_form k qs) {
          processes = plain_calls.end_under (plain_calls.bury_all qs row.family) pid ending (plain.parent_in pid qs);
        };
        reply = replies.Ended;
      })
      in e))
      (sym its.alike.0)
      ∙ ap (λ (r : Option plain.Parent). (let e : Option plain_effects.Effect = Some (plainly_ended r) in e)) is)

  -- nobody is woken: it is the same effect in both
  ends-same : (ps : Numbered Process) (r : Option plain.Parent) → plain.parent_in pid qs ≡ r
      → RowsAlike ps (plain_calls.end_under bqs pid ending r) → OthersFair pid ps
      → MayMakeLines (in_form k qs) (lines (Some replies.Ended) [])
      → StandsInLine k (in_form k qs) node pid call (let e : Effect = record {
        kernel = record k { processes = ps };
        own = Some replies.Ended;
        wakes = [];
      } in e)
  ends-same ps r is alike fair may =
      stands-same k qs node pid call its.alive (ap (option_and_then plain.alive_in) its.is) _ (plainly_ended r)
      (record {
        rows = plain_calls.end_under bqs pid ending r;
        kernel = refl;
        alike = alike;
        own = refl;
        wakes = refl;
        fair = fair;
        keeps = record { queues = λ id. refl; sets = λ id. refl };
      })
      may (plain-ends r is)

  end-alone : plain.parent_in pid qs ≡ None → MayMakeLines (in_form k qs) (lines (Some replies.Ended) [])
      → StandsInLine k (in_form k qs) node pid call (ended_by None)
  end-alone is may =
      ends-same (put bs pid Gone) None is (rows-put bs bqs buried pid Gone plain.Gone tt)
      (fair-over pid bs pid Gone others-fair refl) may

-- With a parent.
module _ (k : Kernel) (qs : Numbered plain.Process) (node pid : ℕ) (call : Call) (ending : Ending)
    (st : MayEndIn k qs pid call ending) (a : Alive) (lives : living_at k pid ≡ Some a)
    (unparked : a.marks.parked ≡ None) (p : Parent) (view : ParentView k.processes pid (Some p)) (q : plain.Parent)
    (is : plain.parent_in pid qs ≡ Some q) (same : SameParent p q) where
  abbrev b : Alive
  b = p.alive

  abbrev ignored : Bool
  ignored = ignores_children b.row

  abbrev bereft : Alive
  bereft = with_family b (family_after_end b.row.family pid ending ignored)

  -- the parent in the other kernel, before and after
  abbrev u : plain_rows.Alive
  u = with_row b.row same.allowance

  abbrev told_u : plain_rows.Alive
  told_u = told ignored (with_row bereft.row same.allowance)

  abbrev x : Process
  x = process_after_end ignored ending

  abbrev base : Numbered Process
  base = put (bs k qs node pid call ending st a lives unparked) pid x

  abbrev qs1 : Numbered plain.Process
  qs1 =
      put (put (bqs k qs node pid call ending st a lives unparked) pid (plain_calls.process_after_end ignored ending))
      p.pid (plain.Living told_u)

  parent-lives : living_at k p.pid ≡ Some b
  parent-lives = ap (option_and_then alive_in) view.0

  -- it isn't the process itself
  apart : p.pid ≢ pid
  apart same_pid =
      true≢false
      (sym view.1
      ∙ subst (λ (i : ℕ). lists b.row.family i ≡ false) same_pid (st.people.apart p.pid b parent-lives))

  its-fair : IsFair b
  its-fair = st.both.fair p.pid b parent-lives

  -- the other kernel's processes after the end are alike where the parent finds nothing
  first-alike : RowsAlike (put base p.pid (Living (raise_chld ignored bereft))) qs1
  first-alike =
      rows-put base
      (put (bqs k qs node pid call ending st a lives unparked) pid (plain_calls.process_after_end ignored ending))
      (rows-put (bs k qs node pid call ending st a lives unparked) (bqs k qs node pid call ending st a lives unparked)
      (buried k qs node pid call ending st a lives unparked) pid x (plain_calls.process_after_end ignored ending)
      (ending-alike ignored ending))
      p.pid (Living (raise_chld ignored bereft)) (plain.Living told_u)
      (told-alike ignored bereft same.allowance same.same)

  abbrev the_parent : plain.Parent
  the_parent = record { pid = p.pid; alive = u }

  its-parent : plain.parent_in pid qs ≡ Some the_parent
  its-parent = is ∙ ap (λ (r : plain.Parent). (let o : Option plain.Parent = Some r in o)) (sym same.is)

  -- the effect, by what the parent finds
  abbrev ended_with : Waited → Effect
  ended_with w =
      record {
        kernel = record k {
          processes = put (bury_found base w) p.pid (Living (raise_chld ignored (after_waiting bereft w)));
        };
        own = Some replies.Ended;
        wakes = wakes_of_parent p.pid w;
      }

  base-fair : OthersFair pid base
  base-fair =
      fair-own pid (bs k qs node pid call ending st a lives unparked) x
      (others-fair k qs node pid call ending st a lives unparked)

  with-fair : (w : Waited) → (let e : Effect = ended_with w in OthersFair pid e.kernel.processes)
  with-fair w =
      fair-other pid (bury_found base w) p.pid (raise_chld ignored (after_waiting bereft w)) (found-fair w)
      (λ ne. fair-chld ignored (after_waiting bereft w) (fair-waiting bereft w its-fair))
    where
      found-fair : (w : Waited) → OthersFair pid (bury_found base w)
      found-fair (Found c how) = fair-over pid base c Gone base-fair refl
      found-fair NotYet = base-fair
      found-fair NoChild = base-fair

  -- the parent finds nothing
  end-unnoticed : MayMakeLines (in_form k qs)
      (lines k qs node pid call ending st a lives unparked (Some replies.Ended) [])
      → StandsInLine k (in_form k qs) node pid call (ended_with NotYet)
  end-unnoticed may =
      ends-same k qs node pid call ending st a lives unparked (put base p.pid (Living (raise_chld ignored bereft)))
      (Some the_parent) its-parent first-alike (with-fair NotYet) may

  -- Or it is woken. First the end by itself.

  abbrev rows1 : Numbered plain.Process
  rows1 = spent_in qs1 pid (plain.living_in qs1 pid)

  rows1-alike : RowsAlike (put base p.pid (Living (raise_chld ignored bereft))) rows1
  rows1-alike = rows-spent _ qs1 first-alike pid (plain.living_in qs1 pid) refl

  first-leads : MayMakeLine (in_form k qs) (line_of node pid call replies.Ended)
      → LeadsTo (in_form k qs) (line_of node pid call replies.Ended) (in_form k rows1)
  first-leads may =
      subst (λ (j : plain.Kernel). LeadsTo (in_form k qs) (line_of node pid call replies.Ended) j)
      (plain-finished (in_form k qs1) pid (plain.living_in qs1 pid))
      (same-line k qs node pid call (its k qs node pid call ending st a lives unparked).alive
      (ap (option_and_then plain.alive_in) (its k qs node pid call ending st a lives unparked).is)
      (plainly_ended k qs node pid call ending st a lives unparked (Some the_parent)) may
      (plain-ends k qs node pid call ending st a lives unparked (Some the_parent) its-parent))

  parent-told : plain.living_in rows1 p.pid ≡ Some told_u
  parent-told =
      spent-other qs1 pid (plain.living_in qs1 pid) p.pid apart
      ∙ ap (option_and_then plain.alive_in)
      (get-put-same
      (put (bqs k qs node pid call ending st a lives unparked) pid (plain_calls.process_after_end ignored ending))
      p.pid (plain.Living told_u))

  -- Then its `waitpid` at once.

  abbrev after_reap : Waited → Numbered plain.Process
  after_reap (Found c how) = plain_calls.processes_after_wait rows1 p.pid told_u c
  after_reap NotYet = rows1
  after_reap NoChild = rows1

  abbrev reply_of : Waited → Reply
  reply_of (Found c how) = replies.Child c how
  reply_of NotYet = replies.Num 0
  reply_of NoChild = replies.Fail Echild

  reaps : (w : Waited) → plain_calls.reap_child (in_form k rows1) p.pid told_u w
      ≡ (let e : plain_effects.Effect = record { kernel = in_form k (after_reap w); reply = reply_of w } in e)
  reaps (Found c how) = refl
  reaps NotYet = refl
  reaps NoChild = refl

  abbrev last_rows : Waited → Numbered plain.Process
  last_rows w = spent_in (after_reap w) p.pid (plain.living_in (after_reap w) p.pid)

  second-leads : (w : Waited) (child : Option ℕ) (nohang : Bool)
      → wait (family_after_end b.row.family pid ending ignored) child ≡ w
      → plain_steps.may_make told_u (calls.WaitPid child true) ≡ true
      → LeadsTo (in_form k rows1) (line_of node p.pid (calls.WaitPid child nohang) (reply_of w))
      (in_form k (last_rows w))
  second-leads w child nohang finds may =
      let e : plain_effects.Effect = record { kernel = in_form k (after_reap w); reply = reply_of w }
      in let does : plain_steps.effect (in_form k rows1) p.pid told_u (calls.WaitPid child true)
      (number_in (Some (reply_of w)))
      ≡ Some e =
      ap
      (λ (f : Family).
      (let o : Option plain_effects.Effect =
      Some (plain_calls.reap_child (in_form k rows1) p.pid told_u (wait f child))
      in o))
      (told-family ignored (with_row bereft.row same.allowance))
      ∙ (ap
      (λ (v : Waited).
      (let o : Option plain_effects.Effect = Some (plain_calls.reap_child (in_form k rows1) p.pid told_u v) in o))
      finds
      ∙ ap (λ (r : plain_effects.Effect). (let o : Option plain_effects.Effect = Some r in o)) (reaps w))
      in subst
      (λ (j : plain.Kernel).
      LeadsTo (in_form k rows1) (line_of node p.pid (calls.WaitPid child nohang) (reply_of w)) j)
      (plain-finished (in_form k (after_reap w)) p.pid (plain.living_in (after_reap w) p.pid))
      (Does
      (plain-step-is (in_form k rows1) p.pid (calls.WaitPid child true) (number_in (Some (reply_of w))) told_u e
      parent-told may does))

  -- it may make that still
  parent-may : (child : Option ℕ) (nohang : Bool) (reply : Reply)
      → MayMakeLine (in_form k qs) (line_of node p.pid (calls.WaitPid child nohang) reply)
      → plain_steps.may_make told_u (calls.WaitPid child true) ≡ true
  parent-may child nohang reply may =
      let there = parent-is pid qs st.rising the_parent its-parent
      in let unspent : is_spent same.allowance ≡ false =
      not-spent (is_spent same.allowance) (may u (ap (option_and_then plain.alive_in) there.0))
      in ap not (told-unspent ignored (with_row bereft.row same.allowance) unspent)

  -- A child that is found isn't the parent.
  found-over : OverFound base (found_after_end b pid ending)
  found-over =
      let over : AllOver k.processes a.row.family.ended = st.people.ended pid a lives
      in let moves : Moves k.processes (bs k qs node pid call ending st a lives unparked) =
      bury-moves k.processes st.people a.row.family.ended over
      in let living : living_in (bs k qs node pid call ending st a lives unparked) p.pid ≡ Some b =
      living-bury k.processes a.row.family.ended over p.pid b parent-lives
      in let ended : IsOver (Some x) = over-process ignored ending
      in let here : IsOver (get base pid) =
      subst (λ (o : Option Process). IsOver o)
      (sym (get-put-same (bs k qs node pid call ending st a lives unparked) pid x)) ended
      in over-found base (family_after_end b.row.family pid ending ignored) (awaited_children b.marks.parked)
      (over-after-end base b.row.family pid ending ignored
      (all-over-put-over (bs k qs node pid call ending st a lives unparked) pid x ended b.row.family.ended
      (moves.people.ended p.pid b living))
      here)

  base-lives : living_in base p.pid ≡ Some b
  base-lives =
      living-put-other (bs k qs node pid call ending st a lives unparked) pid x p.pid apart
      ∙ living-bury k.processes a.row.family.ended (st.people.ended pid a lives) p.pid b parent-lives

  last-alike : (w : Waited) → OverFound base w → is_found w ≡ true
      → (let e : Effect = ended_with w in RowsAlike e.kernel.processes (after_reap w))
  last-alike (Found c how) over found =
      rows-swapped base rows1 p.pid c (Living (raise_chld ignored bereft))
      (Living (raise_chld ignored (after_waiting bereft (Found c how)))) Gone
      (plain.Living (plain_calls.parent_after_wait told_u c)) plain.Gone rows1-alike
      (living-differs base p.pid c b base-lives over)
      (found-alike ignored bereft same.allowance c how same.same) tt
  last-alike NotYet over found = absurd (false≢true found)
  last-alike NoChild over found =
      subst (λ (m : Numbered Process). RowsAlike m rows1)
      (put-put base p.pid (Living (raise_chld ignored bereft))
      (Living (raise_chld ignored (after_waiting bereft NoChild))))
      (rows-put-left (put base p.pid (Living (raise_chld ignored bereft))) rows1 rows1-alike p.pid
      (Living (raise_chld ignored (after_waiting bereft NoChild)))
      (subst
      (λ (o : Option plain.Process). AlikeAt (Some (Living (raise_chld ignored (after_waiting bereft NoChild)))) o)
      (sym (plain-from-living rows1 p.pid told_u parent-told))
      (told-alike ignored (after_waiting bereft NoChild) same.allowance same.same)))

  wakes-one : (w : Waited) → is_found w ≡ true
      → map woken_pair (wakes_of_parent p.pid w) ≡ (p.pid, reply_of w) ∷ []
  wakes-one (Found c how) found = refl
  wakes-one NotYet found = absurd (false≢true found)
  wakes-one NoChild found = refl

  -- the lines of both
  woken-lines : (w : Waited) → is_found w ≡ true → OverFound base w
      → Awaits b.marks.parked (family_after_end b.row.family pid ending ignored) w
      → MayMakeLines (in_form k qs)
      (own_line node pid call (Some replies.Ended) ++ wait_lines k node ((p.pid, reply_of w) ∷ []))
      → LeadInLine (in_form k qs)
      (own_line node pid call (Some replies.Ended) ++ wait_lines k node ((p.pid, reply_of w) ∷ []))
      (in_form k (last_rows w))
  woken-lines w found over awaited may =
      let waits : Call = calls.WaitPid awaited.child awaited.nohang
      in let mark : mark_in k.processes p.pid ≡ Some waits = ap mark_of parent-lives ∙ awaited.is
      in let its_may : MayMakeLines (in_form k qs) (line_of node p.pid waits (reply_of w) ∷ []) =
      subst
      (λ (m : Option Call). MayMakeLines (in_form k qs) (marked_line node p.pid m (reply_of w) ++ []))
      mark may.1
      in let second : LeadInLine (in_form k rows1) (line_of node p.pid waits (reply_of w) ∷ [])
      (in_form k (last_rows w)) =
      record {
        next = in_form k (last_rows w);
        leads =
            second-leads w awaited.child awaited.nohang awaited.finds
            (parent-may awaited.child awaited.nohang (reply_of w) its_may.0);
        rest = refl;
      }
      in record {
        next = in_form k rows1;
        leads = first-leads may.0;
        rest =
            subst
            (λ (m : Option Call).
            LeadInLine (in_form k rows1) (marked_line node p.pid m (reply_of w) ++ []) (in_form k (last_rows w)))
            (sym mark) second;
      }

  end-noticed : (w : Waited) → is_found w ≡ true → OverFound base w
      → Awaits b.marks.parked (family_after_end b.row.family pid ending ignored) w
      → MayMakeLines (in_form k qs)
      (lines k qs node pid call ending st a lives unparked (Some replies.Ended) (wakes_of_parent p.pid w))
      → StandsInLine k (in_form k qs) node pid call (ended_with w)
  end-noticed w found over awaited may =
      let e : Effect = ended_with w
      in let now_may : MayMakeLines (in_form k qs)
      (own_line node pid call (Some replies.Ended) ++ wait_lines k node ((p.pid, reply_of w) ∷ [])) =
      subst
      (λ (ws : List (ℕ × Reply)).
      MayMakeLines (in_form k qs) (own_line node pid call (Some replies.Ended) ++ wait_lines k node ws))
      (wakes-one w found) may
      in record {
        last = in_form k (last_rows w);
        leads =
            subst
            (λ (ws : List (ℕ × Reply)).
            LeadInLine (in_form k qs) (own_line node pid call (Some replies.Ended) ++ wait_lines k node ws)
            (in_form k (last_rows w)))
            (sym (wakes-one w found)) (woken-lines w found over awaited now_may);
        alike =
            alike-finished e.kernel (last_rows w)
            (rows-spent e.kernel.processes (after_reap w) (last-alike w over found) p.pid
            (plain.living_in (after_reap w) p.pid) refl)
            pid call (Some replies.Ended);
        fair = fair-finished e.kernel pid call (Some replies.Ended) (with-fair w);
      }

  end-by : (w : Waited) → found_after_end b pid ending ≡ w
      → MayMakeLines (in_form k qs)
      (lines k qs node pid call ending st a lives unparked (Some replies.Ended) (wakes_of_parent p.pid w))
      → StandsInLine k (in_form k qs) node pid call (ended_with w)
  end-by NotYet finds may = end-unnoticed may
  end-by (Found c how) finds may =
      end-noticed (Found c how) refl (subst (OverFound base) finds found-over)
      (awaits b.marks.parked (family_after_end b.row.family pid ending ignored) (Found c how) finds refl) may
  end-by NoChild finds may =
      end-noticed NoChild refl (subst (OverFound base) finds found-over)
      (awaits b.marks.parked (family_after_end b.row.family pid ending ignored) NoChild finds refl) may

-- The end of a process, and perhaps its parent's line.
module _ (k : Kernel) (qs : Numbered plain.Process) (node pid : ℕ) (call : Call) (ending : Ending)
    (st : MayEndIn k qs pid call ending) (a : Alive) (lives : living_at k pid ≡ Some a)
    (unparked : a.marks.parked ≡ None) where
  ends-by-parent : (o : Option Parent) → parent_in pid k.processes ≡ o → ParentView k.processes pid o
      → (r : Option plain.Parent) → plain.parent_in pid qs ≡ r → ParentsAlike o r
      → MayMakeLines (in_form k qs)
      (lines k qs node pid call ending st a lives unparked (Some replies.Ended) (wakes_under pid ending o))
      → StandsInLine k (in_form k qs) node pid call (ended_by k qs node pid call ending st a lives unparked o)
  ends-by-parent None is view None found alike may = end-alone k qs node pid call ending st a lives unparked found may
  ends-by-parent None is view (Some q) found alike may = absurd alike
  ends-by-parent (Some p) is view None found alike may = absurd alike
  ends-by-parent (Some p) is view (Some q) found alike may =
      end-by k qs node pid call ending st a lives unparked p view q found alike
      (found_after_end p.alive pid ending) refl may

  pub end-in-line : (e : Effect) → end_process k pid a ending ≡ e
      → MayMakeLines (in_form k qs) (own_line node pid call e.own ++ wait_lines k node (map woken_pair e.wakes))
      → StandsInLine k (in_form k qs) node pid call e
  end-in-line e is may =
      subst (λ (y : Effect). StandsInLine k (in_form k qs) node pid call y) is
      (ends-by-parent (parent_in pid k.processes) refl (parent-view pid k.processes st.people.rising)
      (plain.parent_in pid qs) refl
      (parents-alike k qs st.both.alike st.people st.one st.rising pid (parent_in pid k.processes) refl)
      (subst
      (λ (y : Effect).
      MayMakeLines (in_form k qs) (own_line node pid call y.own ++ wait_lines k node (map woken_pair y.wakes)))
      (sym is) may))
