-- The end of a process in the kernel in which callers wait: it has the outcome that the node's exit has, and in line it
-- is the end, and then perhaps the parent's wait.
use Rattle.std.proofs.Common.{List, None, Option, Some, [], ap, false, map, refl, subst, sym, true, ℕ, ◌++◌, ◌∙◌, ◌∷◌, ◌≡◌}
use Rattle.std.proofs.lemmas.Bool.{false≢true}
use Rattle.pico_base.specs.declared.call.Call.{Call}
use Rattle.pico_base.specs.declared.reply.Entry.{Entry}
use Rattle.pico_base.specs.declared.reply.Outcome.{Outcome}
use Rattle.pico_base.specs.declared.numbers.Name.TheVariants.{Proc}
use Rattle.pico_base.specs.declared.reply.Reply.{Reply}
use Rattle.pico_base.specs.declared.script.Script.{Script}
use Rattle.pico_base.specs.declared.call.Call.TheVariants as calls
use Rattle.pico_base.specs.declared.reply.Reply.TheVariants as replies
use Rattle.rpc_frame.specs.declared.deed.Parcel.{Parcel}
use Rattle.kernel_model.specs.Row.{Row, lists}
use Rattle.kernel_model.specs.Kernel.{Kernel, living_at}
use Rattle.kernel_model.specs.Row as plain_rows
use Rattle.kernel_model.specs.Transition as plain_steps
use Rattle.waiting_model.specs.ProcessCalls.{wakes_under}
use Rattle.waiting_model.specs.Linear.{line_of}
use Rattle.waiting_model.specs.Transition.{may_make, successor, transition}
use Rattle.waiting_model.specs.Effect.{woken_pair}
use Rattle.waiting_model.specs.Kernel as whole_kernels
use Rattle.world_laws.specs.Places.{Beside, DeedPlace, InTable}
use Rattle.world_laws.specs.Deeds.{DeedsAreRead}
use Rattle.world_laws.specs.Wholes.{HasMarks, HasMarksOf, HasWhole, under_way_at}
use Rattle.world_laws.specs.Invariant.{HoldsOwing}
use Rattle.world_laws.proofs.Wholes.{LivesAlike, lives-alike}
use Rattle.world_laws.specs.Cancels.{Owing}
use Rattle.node_model.specs.Bodies.{Body, Living as LivingBody, body_in, is_living_body, AQueue, ASet, Ended, Gone, Removed}
use Rattle.node_model.specs.Parcels.{Committed, ending_of, parent_with, parked_in}
use Rattle.node_model.specs.declared.held.Held.{Held}
use Rattle.node_model.specs.Entries.{entry_with, outcome_with}
use Rattle.waiting_laws.specs.Lines.{MayMakeLines, marked_line, own_line, wait_lines, lines_of}
use Rattle.waiting_laws.specs.Parked.{mark_of}
use Rattle.waiting_laws.proofs.Struck.{EndsWhole, end-leads, ending_in, no-parent-of, wakes-by-row, parent-of}
use Rattle.route_laws.proofs.exits.Parcels.{HasParcel, is-an-end, own-lives, own-place, own-living}
use Rattle.route_laws.proofs.exits.Exits.{awaits, child-of, ends_as, exit_entry, exit_line, may-exit, parent_body, pid-is}
use Rattle.route_laws.proofs.exits.Parents.{awaits-same, own_wake, parent-lives, parent-waits, parent_alike, has-row}
use Rattle.rule_laws.proofs.own.InWhole.{LivesPlain, lives-plain}
use Rattle.entry_laws.specs.Entering.{MayMake, HasRow}
use Rattle.entry_laws.proofs.Bodies.{living-body}
use Rattle.world_model.specs.World.{World}
use Rattle.world_model.specs.Lives.{is_end}
use Rattle.waiting_model.specs.Kernel.{parent_in}

some-same : {A : Type 0} {u v : A} → Some u ≡ Some v → u ≡ v
some-same e = cc

none-is-some : {A : Type 0} (a : A) → None ≡ Some a → ⊥
none-is-some a e = cc

-- ---- an end

-- which ending it has
pub ending-known : (call : Call) → is_end call ≡ true → ending_in call ≡ Some (ending_of call)
ending-known (calls.Exit status) h = refl
ending-known (calls.Killed sig) h = refl
ending-known call h = absurd (false≢true h)

-- its own line, and those of whom it wakes
end-lines : (k : whole_kernels.Kernel) (node pid : ℕ) (call : Call) (outcome : Outcome) → is_end call ≡ true
    → lines_of k (entry_with node pid call outcome)
    ≡ own_line node pid call outcome.own ++ wait_lines k node outcome.woken
end-lines k node pid (calls.Exit status) outcome h = refl
end-lines k node pid (calls.Killed sig) outcome h = refl
end-lines k node pid call outcome h = absurd (false≢true h)

module _ (script : Script) (w : World) (hand : List Held) {owes : Owing} (b : Beside)
    (holds : HoldsOwing script w hand owes b) (parcel : Parcel) (c : ℕ) (call : Call) (place : DeedPlace)
    (parcel_is : HasParcel script w b parcel c call place) (reads : DeedsAreRead b.kernel b.body) (x : ℕ)
    (parent_at : b.deed (Proc parcel.parent) ≡ InTable x) (whole : HasWhole w b) where
  abbrev k : Kernel
  k = b.kernel

  abbrev body : Body
  body = parent_body script w hand b holds parcel c call place parcel_is reads x parent_at

  abbrev ends : Committed
  ends = ends_as script w hand b holds parcel c call place parcel_is reads x parent_at

  pid-of : parcel.pid ≡ b.pids c
  pid-of = pid-is script w hand b holds parcel c call place parcel_is reads x parent_at

  call-of : parcel.call ≡ call
  call-of = let p = parcel_is.is_of in p.call_is

  an-end : is_end parcel.call ≡ true
  an-end = ap is_end call-of ∙ is-an-end script w hand b holds parcel c call place parcel_is

  -- ---- the process

  abbrev ender : LivesAlike b.whole (b.pids c) (own-lives script w hand b holds parcel c call place parcel_is).alive
  ender =
      lives-alike b.whole k (b.pids c) _ whole.alike
      (own-living script w hand b holds parcel c call place parcel_is)

  -- it may make its last call
  may-end-there : may_make ender.alive call ≡ true
  may-end-there =
      subst (λ z. HasMarksOf z call ender.alive) (own-place script w hand b holds parcel c call place parcel_is)
      (subst (λ o. HasMarks (b.call c) o ender.alive) parcel_is.under_way (whole.marks c ender.alive ender.lives))

  -- and does
  pub whole-end : EndsWhole b.whole (b.pids c) parcel.call (ending_of parcel.call)
  whole-end =
      end-leads b.whole (b.pids c) ender.alive parcel.call (ending_of parcel.call) ender.lives
      (subst (λ z. may_make ender.alive z ≡ true) (sym call-of) may-end-there) (ending-known parcel.call an-end)

  -- ---- its parent

  parent-there : (row : Row) (is : body ≡ LivingBody row)
      → (let p = parent_alike script w hand b holds parcel c call place parcel_is reads x parent_at row is whole
      in parent_in (b.pids c) b.whole.processes ≡ Some (record { pid = parcel.parent; alive = p.alive }))
  parent-there row is =
      let p = parent_alike script w hand b holds parcel c call place parcel_is reads x parent_at row is whole
      in let h : HasRow k parcel.parent row =
      has-row script w hand b holds parcel c call place parcel_is reads x parent_at row is
      in let l = parent-lives script w hand b holds parcel c call place parcel_is reads x parent_at row is
      in parent-of b.whole (b.pids c) parcel.parent p.alive whole.sound p.lives
      (ap (λ (r : Row). lists r.family (b.pids c)) (p.row ∙ h.row_is) ∙ ap (lists row.family) (sym pid-of) ∙ l.listed)

  no-parent : is_living_body body ≡ false → parent_in (b.pids c) b.whole.processes ≡ None
  no-parent dead =
      no-parent-of b.whole (b.pids c) whole.sound
      (λ p a lives listed.
      let now : LivesPlain k p a = lives-plain b.whole k p a whole.alike lives
      in let child = child-of script w hand b holds parcel c call place parcel_is reads x parent_at
      in let same : p ≡ parcel.parent =
      child.only p now.alive now.lives
      (ap (λ (r : Row). lists r.family parcel.pid) now.row ∙ ap (lists a.row.family) pid-of ∙ listed)
      in false≢true
      (sym dead ∙ ap (λ q. is_living_body (body_in k (Proc q))) (sym same)
      ∙ ap is_living_body (living-body k p now.alive now.lives)))

  wakes-none : (y : Body) (waits : Option Call) → is_living_body y ≡ false
      → wakes_under parcel.pid (ending_of parcel.call) (parent_with parcel.parent waits y) ≡ []
  wakes-none (LivingBody row) waits h = absurd (false≢true (sym h))
  wakes-none y waits h = refl

  no-wakes-either : (y : Body) → body ≡ y → is_living_body y ≡ false
      → wakes_under (b.pids c) (ending_of parcel.call) (parent_in (b.pids c) b.whole.processes) ≡ ends.wakes
  no-wakes-either y is dead =
      let none : is_living_body body ≡ false = ap is_living_body is ∙ dead
      in ap (wakes_under (b.pids c) (ending_of parcel.call)) (no-parent none)
      ∙ sym (wakes-none body (awaits script w hand b holds parcel c call place parcel_is reads x parent_at) none)

  -- the same are woken
  same-wakes : (y : Body) → body ≡ y
      → wakes_under (b.pids c) (ending_of parcel.call) (parent_in (b.pids c) b.whole.processes) ≡ ends.wakes
  same-wakes (LivingBody row) is =
      let p = parent_alike script w hand b holds parcel c call place parcel_is reads x parent_at row is whole
      in let h : HasRow k parcel.parent row =
      has-row script w hand b holds parcel c call place parcel_is reads x parent_at row is
      in ap (wakes_under (b.pids c) (ending_of parcel.call)) (parent-there row is)
      ∙ ap (λ q. wakes_under q (ending_of parcel.call) (Some (record { pid = parcel.parent; alive = p.alive })))
      (sym pid-of)
      ∙ wakes-by-row parcel.pid (ending_of parcel.call) (record { pid = parcel.parent; alive = p.alive })
      (record {
        pid = parcel.parent;
        alive = parked_in (awaits script w hand b holds parcel c call place parcel_is reads x parent_at) row;
      }) refl (p.row ∙ h.row_is)
      (awaits-same script w hand b holds parcel c call place parcel_is reads x parent_at row is whole)
      ∙ sym (ap (λ z. wakes_under parcel.pid (ending_of parcel.call) (parent_with parcel.parent
      (awaits script w hand b holds parcel c call place parcel_is reads x parent_at) z)) is)
  same-wakes (Ended ending) is = no-wakes-either (Ended ending) is refl
  same-wakes Gone is = no-wakes-either Gone is refl
  same-wakes (AQueue q) is = no-wakes-either (AQueue q) is refl
  same-wakes (ASet s) is = no-wakes-either (ASet s) is refl
  same-wakes Removed is = no-wakes-either Removed is refl

  -- ---- the entry

  abbrev pub end_outcome : Outcome
  end_outcome = outcome_with (Some replies.Ended) ends.wakes

  -- It is a step of the kernel in which callers wait, with the outcome that the node gives it.
  pub whole-steps : (n : ℕ)
      → transition b.whole (b.pids c) parcel.call n ≡ Some (successor whole-end.next end_outcome)
  whole-steps n =
      whole-end.step n
      ∙ ap (λ wakes. Some (successor whole-end.next (outcome_with (Some replies.Ended) wakes))) (same-wakes body refl)

  abbrev entry : Entry
  entry = exit_entry script w hand b holds parcel c call place parcel_is reads x parent_at

  abbrev line : Entry
  line = exit_line script w hand b holds parcel c call place parcel_is reads x parent_at

  -- in line it is the end alone where nobody is woken
  pub lines-alone : ends.wakes ≡ [] → lines_of b.whole entry ≡ line ∷ []
  lines-alone none =
      end-lines b.whole x parcel.pid parcel.call end_outcome an-end
      ∙ ap (λ wakes. line ∷ wait_lines b.whole x (map woken_pair wakes)) none

  -- and else the parent's wait behind it
  pub lines-woken : (row : Row) (is : body ≡ LivingBody row) (waits : Call) (reply : Reply)
      → awaits script w hand b holds parcel c call place parcel_is reads x parent_at ≡ Some waits
      → ends.wakes ≡ own_wake parcel.parent reply ∷ []
      → lines_of b.whole entry ≡ line ∷ line_of x parcel.parent waits reply ∷ []
  lines-woken row is waits reply aw woken =
      let p = parent_alike script w hand b holds parcel c call place parcel_is reads x parent_at row is whole
      in let l = parent-lives script w hand b holds parcel c call place parcel_is reads x parent_at row is
      in let m = parent-waits script w hand b holds parcel c call place parcel_is reads x parent_at row is waits aw
      in let marks : HasMarks (b.call x) (under_way_at w x) p.alive =
      whole.marks x p.alive (ap (whole_kernels.living_at b.whole) (sym l.pid_is) ∙ p.lives)
      in let parked : p.alive.marks.parked ≡ Some waits =
      subst (λ z. HasMarksOf z waits p.alive) m.parked (subst (λ o. HasMarks (b.call x) o p.alive) m.under_way_is marks)
      in end-lines b.whole x parcel.pid parcel.call end_outcome an-end
      ∙ ap (λ wakes. line ∷ wait_lines b.whole x (map woken_pair wakes)) woken
      ∙ ap (λ mark. line ∷ marked_line x parcel.parent mark reply ++ []) (ap mark_of p.lives ∙ parked)

  -- ---- each line may be made

  same-alive : (a : plain_rows.Alive) → living_at k parcel.pid ≡ Some a → plain_steps.may_make a parcel.call ≡ true
  same-alive a lives =
      let m : MayMake k parcel.pid parcel.call =
      may-exit script w hand b holds parcel c call place parcel_is reads x parent_at
      in subst (λ (z : plain_rows.Alive). plain_steps.may_make z parcel.call ≡ true)
      (some-same (sym m.lives ∙ lives)) m.may

  pub may-alone : ends.wakes ≡ [] → MayMakeLines k (lines_of b.whole entry)
  may-alone none = subst (λ ls. MayMakeLines k ls) (sym (lines-alone none)) (same-alive, tt)

  pub may-woken : (row : Row) (is : body ≡ LivingBody row) (waits : Call) (reply : Reply)
      → awaits script w hand b holds parcel c call place parcel_is reads x parent_at ≡ Some waits
      → ends.wakes ≡ own_wake parcel.parent reply ∷ [] → MayMakeLines k (lines_of b.whole entry)
  may-woken row is waits reply aw woken =
      let l = parent-lives script w hand b holds parcel c call place parcel_is reads x parent_at row is
      in let m = parent-waits script w hand b holds parcel c call place parcel_is reads x parent_at row is waits aw
      in subst (λ ls. MayMakeLines k ls) (sym (lines-woken row is waits reply aw woken)) (
        same-alive,
        (
          λ a lives. subst (λ (z : plain_rows.Alive). plain_steps.may_make z waits ≡ true)
              (some-same (sym m.made.lives ∙ ap (living_at k) (sym l.pid_is) ∙ lives)) m.made.may,
          tt,
        ),
      )
