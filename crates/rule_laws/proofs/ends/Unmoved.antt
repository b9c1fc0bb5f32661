-- An event of a process's end that carries nothing out and moves no call: the kernel in which callers wait stays beside
-- the world, and so does what holds of a call's withdrawal.
use Rattle.std.proofs.Common.{◌≡◌, ℕ, ◌≤◌, false, List, [], filter, refl, sym, subst, ◌∙◌, append-nil}
use Rattle.std.specs.List.{AllByRecursion}
use Rattle.pico_base.specs.declared.numbers.Name.{Name}
use Rattle.pico_base.specs.declared.script.Script.{Script}
use Rattle.rpc_frame.specs.declared.frame.Frame.{Frame}
use Rattle.waiting_model.specs.Calls.{waits_at}
use Rattle.node_model.specs.declared.held.Held.{Held}
use Rattle.node_model.specs.Directory.{held_for, stays}
use Rattle.world_model.specs.Node.{Node}
use Rattle.world_model.specs.World.{World, node_count}
use Rattle.world_laws.specs.Places.{DeedPlace, Beside}
use Rattle.world_laws.specs.Sights.{node_of, directory_of, is_born_in}
use Rattle.world_laws.specs.Names.{NameHolds, name_sight}
use Rattle.world_laws.specs.Callers.{is_about}
use Rattle.world_laws.specs.Cancels.{CancelIf, Owing, cancel_sight, is_cancel_of}
use Rattle.world_laws.specs.Wholes.{HasMarks, WholeIf, under_way_at}
use Rattle.world_laws.specs.Invariant.{HoldsOwing}
use Rattle.world_laws.proofs.Cancels.{cancel-left-alone, is_item_of}
use Rattle.world_laws.proofs.Changes.{Changes, read-same}
use Rattle.world_laws.proofs.LeftAlone.{SameCaller}
use Rattle.world_laws.proofs.Wholes.{whole-left-alone}
use Rattle.rule_laws.proofs.CallMoves.{cancel-if-same}
use Rattle.rule_laws.proofs.Nowhere.{nowhere-unused, still-unknown}

-- what such an event leaves of the items of a node's call and of its withdrawal; a node that leaves doesn't stay later
pub record LeavesItems (w w' : World) (hand hand' : List Held) (p : ℕ) (n : Node) (x : ℕ) : Type 0 where
  pub own : x ≡ p → SameCaller (node_of w p) n
  pub held_is : (name : Name)
      → filter (is_item_of x) (held_for (directory_of w') name)
      ≡ filter (is_item_of x) (held_for (directory_of w) name)
  pub hand_is : filter (is_item_of x) hand' ≡ filter (is_item_of x) hand
  pub leaves : (q : ℕ) → stays (directory_of w) q ≡ false → stays (directory_of w') q ≡ false

module _ (script : Script) (w w' : World) (hand hand' : List Held) (owes : Owing) (b : Beside) (deed : Name → DeedPlace)
    (p : ℕ) (n : Node) (takes sends : List (ℕ × Frame)) (holds : HoldsOwing script w hand owes b)
    (c : Changes script p w w' n takes sends []) where
  abbrev after : Beside
  after = record b { deed = deed }

  -- the kernel in which callers wait
  pub whole-unmoved : n.caller.under_way ≡ under_way_at w p → WholeIf owes w' after
  whole-unmoved same =
      whole-left-alone w w' b after owes
      (record {
        journal_is = c.journal ∙ append-nil w.journal;
        lines_are = refl;
        kernel_is = refl;
        whole_is = refl;
        pids_are = λ x. refl;
        bodies_are = λ name. refl;
        marks_still = λ x a lives. subst (λ o. HasMarks (b.call x) o a)
            (sym (read-same script p w w' n takes sends [] c (λ (m : Node). m.caller.under_way) same x));
      }) holds.whole

  -- the withdrawal of a call, once the names hold
  pub cancel-unmoved : ((name : Name)
      → NameHolds script b.pids (is_born_in w') name (name_sight script w' hand' after name))
      → (x : ℕ) → 1 ≤ x → x ≤ node_count script → LeavesItems w w' hand hand' p n x
      → AllByRecursion (λ s. is_about x p s.0 s.1 ≡ false) takes
      → AllByRecursion (λ s. is_about x s.0 p s.1 ≡ false) sends
      → AllByRecursion (λ s. is_cancel_of x s.1 ≡ false) takes
      → AllByRecursion (λ s. is_cancel_of x s.1 ≡ false) sends
      → CancelIf x owes (cancel_sight w' hand' after x)
  cancel-unmoved names x low high l not_taken not_sent none_taken none_sent =
      cancel-if-same x owes (cancel_sight w hand b x) (cancel_sight w' hand' after x) refl
      (cancel-left-alone script p w w' n takes sends [] c hand hand' b after x
      (record {
        own = l.own;
        call_is = refl;
        cancel_is = refl;
        held_is = l.held_is;
        hand_is = l.hand_is;
        nowhere = λ call is may at. record {
          node = at.node;
          is = at.is;
          leaves = l.leaves at.node at.leaves;
          unknown = still-unknown script b.pids (is_born_in w') w' hand' after (waits_at (node_of w x).pid call)
              (names (waits_at (node_of w x).pid call))
              (nowhere-unused script w hand owes b holds x low high call is may at);
        };
      }) not_taken not_sent none_taken none_sent)
      (holds.cancels x low high)
