-- A call that starts, in the kernel in which callers wait: its process isn't parked, and may make it. And it has no
-- withdrawal as yet.
use Rattle.std.proofs.Common.{◌≡◌, ℕ, ◌+◌, ◌≤◌, Bool, true, false, List, [], filter, Option, Some, None, is_some, refl, ap, sym, subst, ◌∙◌, arith}
use Rattle.std.specs.List.{AllByRecursion}
use Rattle.std.proofs.lemmas.Bool.{false≢true}
use Rattle.pico_base.specs.declared.call.Call.{Call}
use Rattle.pico_base.specs.declared.call.Call.TheVariants as calls
use Rattle.pico_base.specs.declared.numbers.Name.{Name}
use Rattle.pico_base.specs.declared.reply.Entry.{Entry}
use Rattle.pico_base.specs.declared.script.Script.{Script}
use Rattle.pico_base.specs.declared.signal.Sig.{Sig}
use Rattle.rpc_frame.specs.declared.frame.Frame.{Frame}
use Rattle.kernel_model.specs.Row.{Row}
use Rattle.kernel_model.specs.Row as plain_rows
use Rattle.waiting_model.specs.Calls.{may_park}
use Rattle.waiting_model.specs.Kernel.{Kernel, living_at}
use Rattle.waiting_model.specs.Marks.{Alive}
use Rattle.waiting_model.specs.Transition.{may_make}
use Rattle.waiting_laws.specs.InLine.{IsAlike}
use Rattle.node_model.specs.declared.held.Held.{Held}
use Rattle.node_model.specs.Caller.{Caller, due_call, start_call}
use Rattle.node_model.specs.Directory.{held_for}
use Rattle.world_model.specs.Node.{Node}
use Rattle.world_model.specs.World.{World, node_count}
use Rattle.world_laws.specs.Places.{CallPlace, Parked, Waits, InAnswer, NoCancel, Beside}
use Rattle.world_laws.specs.Sights.{node_of, directory_of}
use Rattle.world_laws.specs.Callers.{CallHolds, call_sight}
use Rattle.world_laws.specs.Cancels.{CancelHolds, Nothing, cancel_sight, is_cancel_of, is_doomed, is_held_cancel_of}
use Rattle.world_laws.specs.Invariant.{Holds}
use Rattle.world_laws.specs.Wholes.{HasMarks, HasWhole}
use Rattle.world_laws.proofs.Cancels.{next-later}
use Rattle.world_laws.proofs.Changes.{Changes}
use Rattle.world_laws.proofs.Replied.{cancel-starts}
use Rattle.world_laws.proofs.Wholes.{IsDueBy, LivesAlike, is_to_be_made, lives-alike, may-start}
use Rattle.rule_laws.proofs.Withdrawals.{idle-uncancelled, old-still}
use Rattle.rule_laws.proofs.own.InWhole.{LivesPlain, lives-plain}
use Rattle.rule_laws.proofs.own.Runs.{Starts}

killed-same : (sig : Sig) (call : Call) → Some (calls.Killed sig) ≡ Some call → call ≡ calls.Killed sig
killed-same sig call h = cc

due-by : (script : Script) (number : ℕ) (c : Caller) (doom : Option Sig) (call : Call)
    → due_call script number c doom ≡ Some call → IsDueBy doom call
due-by script number c None call h = tt
due-by script number c (Some sig) call h = killed-same sig call h

-- who is doomed starts its end, which never waits
calm-by : (doom : Option Sig) (call : Call) → IsDueBy doom call → may_park call ≡ true → is_some doom ≡ false
calm-by None call due parks = refl
calm-by (Some sig) call due parks = absurd (false≢true (sym (ap may_park due) ∙ parks))

plain-same : (a c : plain_rows.Alive) → Some a ≡ Some c → a ≡ c
plain-same a c h = cc

some-same : (a c : Alive) → Some a ≡ Some c → a ≡ c
some-same a c h = cc

-- a call that isn't carried out, in any place but where it waits
pub marks-of-made : (place : CallPlace) (call : Call) (a : Alive) → is_to_be_made place ≡ true → may_make a call ≡ true
    → HasMarks place (Some call) a
marks-of-made Parked call a there may = absurd (false≢true there)
marks-of-made (Waits name) call a there may = absurd (false≢true there)
marks-of-made (InAnswer sender reply) call a there may = absurd (false≢true there)
marks-of-made place call a there may = may

module _ (script : Script) (w : World) (b : Beside) (holds : Holds script w [] b) (p : ℕ) (low : 1 ≤ p)
    (high : p ≤ node_count script) (s : Starts script w b p) where
  abbrev n : Node
  n = node_of w p

  whole-is : HasWhole w b
  whole-is = holds.whole

  -- the process in the kernel in which callers wait
  pub its-process : LivesAlike b.whole (b.pids p) s.alive
  its-process = lives-alike b.whole b.kernel (b.pids p) s.alive whole-is.alike s.lives

  abbrev alive : Alive
  alive = its-process.alive

  -- It isn't parked.
  pub starts-unparked : alive.marks.parked ≡ None
  starts-unparked =
      subst (λ (o : Option Call). HasMarks (b.call p) o alive) s.no_call (whole-is.marks p alive its-process.lives)

  is-due-by : IsDueBy alive.row.signals.doom s.call
  is-due-by =
      subst (λ (r : Row). IsDueBy r.signals.doom s.call) (sym (its-process.row ∙ s.row_is))
      (due-by script n.number n.caller s.row.signals.doom s.call s.is_due)

  -- It may make the call.
  pub starts-may : may_make alive s.call ≡ true
  starts-may =
      may-start alive s.alive s.call its-process.row its-process.allowance starts-unparked is-due-by s.due_now.may

  pub starts-may-as : (a : Alive) → living_at b.whole (b.pids p) ≡ Some a → may_make a s.call ≡ true
  starts-may-as a lives =
      subst (λ (z : Alive). may_make z s.call ≡ true) (some-same alive a (sym its-process.lives ∙ lives)) starts-may

  pub marks-started : (place : CallPlace) (a : Alive) → is_to_be_made place ≡ true
      → living_at b.whole (b.pids p) ≡ Some a
      → HasMarks place (Some s.call) a
  marks-started place a there lives =
      marks-of-made place s.call a there (starts-may-as a lives)

  -- who may have to wait isn't doomed, in any kernel in which callers wait that is like the other one
  pub undoomed : (whole : Kernel) → IsAlike whole b.kernel → may_park s.call ≡ true
      → is_doomed (living_at whole (b.pids p)) ≡ false
  undoomed whole alike parks = by-life (living_at whole (b.pids p)) refl
    where
      by-life : (o : Option Alive) → living_at whole (b.pids p) ≡ o → is_doomed (living_at whole (b.pids p)) ≡ false
      by-life None is = ap is_doomed is
      by-life (Some a) is =
          let plain : LivesPlain b.kernel (b.pids p) a = lives-plain whole b.kernel (b.pids p) a alike is
          in let rows : a.row ≡ alive.row =
          sym plain.row ∙ ap (λ (z : plain_rows.Alive). z.row) (plain-same plain.alive s.alive (sym plain.lives
          ∙ s.lives))
          ∙ sym its-process.row
          in ap is_doomed is
          ∙ ap (λ (r : Row). is_some r.signals.doom) rows ∙ calm-by alive.row.signals.doom s.call is-due-by parks

  -- no call was under way, so there was no withdrawal
  pub starts-uncancelled : b.cancel p ≡ NoCancel
  starts-uncancelled =
      idle-uncancelled p Nothing (cancel_sight w [] b p) (holds.cancels p low high) s.no_call

  -- Nor is there one of the call that starts, where the event takes and sends none, and the kernel is the same without
  -- those who wait.
  pub cancel-begun : (w' : World) (hand' : List Held) (m : Node) (takes sends : List (ℕ × Frame))
      (entries : List Entry) → Changes script p w w' m takes sends entries → (b' : Beside)
      → m.number ≡ n.number → m.pid ≡ n.pid → m.caller ≡ start_call n.caller s.call → b'.cancel p ≡ b.cancel p
      → b'.pids p ≡ b.pids p → IsAlike b'.whole b.kernel
      → ((name : Name)
      → filter (is_held_cancel_of p) (held_for (directory_of w') name)
      ≡ filter (is_held_cancel_of p) (held_for (directory_of w) name))
      → filter (is_held_cancel_of p) hand' ≡ []
      → AllByRecursion (λ x. is_cancel_of p x.1 ≡ false) takes → AllByRecursion (λ x. is_cancel_of p x.1 ≡ false) sends
      → (more : ℕ → Bool) → CallHolds script p more (call_sight w' hand' b' p)
      → CancelHolds p Nothing (cancel_sight w' hand' b' p)
  cancel-begun w' hand' m takes sends entries c b' number pid caller cancel pids alike held at_hand none_taken none_sent
      more call =
      let h : CancelHolds p Nothing (cancel_sight w [] b p) = holds.cancels p low high
      in let node_holds = holds.nodes p low high
      in let now : (node_of w' p).caller ≡ start_call n.caller s.call =
      ap (λ (z : Node). z.caller) c.here ∙ caller
      in let ticket : (node_of w' p).caller.ticket ≡ n.caller.ticket + 1 = ap (λ (k : Caller). k.ticket) now
      in cancel-starts script p more Nothing Nothing (cancel_sight w [] b p) w' hand' b' s.call
      (record {
        number_is = ap (λ (z : Node). z.number) c.here ∙ number ∙ node_holds.number;
        under_way = ap (λ (k : Caller). k.under_way) now;
        unnoted = ap (λ (k : Caller). k.noted) now;
        newer = omega (arith, ticket);
        old = old-still script p w w' m takes sends entries c [] hand' b b' p
            (sym (ap (λ (z : Node). z.pid) c.here ∙ pid))
            (next-later n.caller (let z : Node = node_of w' p in z.caller) (omega (arith, ticket))) held at_hand
            none_taken none_sent;
        cancel = cancel ∙ starts-uncancelled;
        undoomed = λ none parks. ap (λ q. is_doomed (living_at b'.whole q)) pids ∙ undoomed b'.whole alike parks;
      }) (λ owed. absurd (false≢true owed)) call h

  -- where the kernel in which callers wait is the same, too
  pub cancel-started : (w' : World) (hand' : List Held) (m : Node) (takes sends : List (ℕ × Frame))
      (entries : List Entry) → Changes script p w w' m takes sends entries → (b' : Beside)
      → m.number ≡ n.number → m.pid ≡ n.pid → m.caller ≡ start_call n.caller s.call → b'.cancel p ≡ b.cancel p
      → b'.pids p ≡ b.pids p → b'.whole ≡ b.whole
      → ((name : Name)
      → filter (is_held_cancel_of p) (held_for (directory_of w') name)
      ≡ filter (is_held_cancel_of p) (held_for (directory_of w) name))
      → filter (is_held_cancel_of p) hand' ≡ []
      → AllByRecursion (λ x. is_cancel_of p x.1 ≡ false) takes → AllByRecursion (λ x. is_cancel_of p x.1 ≡ false) sends
      → (more : ℕ → Bool) → CallHolds script p more (call_sight w' hand' b' p)
      → CancelHolds p Nothing (cancel_sight w' hand' b' p)
  cancel-started w' hand' m takes sends entries c b' number pid caller cancel pids whole held at_hand none_taken
      none_sent
      more call =
      cancel-begun w' hand' m takes sends entries c b' number pid caller cancel pids
      (subst (λ k. IsAlike k b.kernel) (sym whole) whole-is.alike) held at_hand none_taken none_sent more call
