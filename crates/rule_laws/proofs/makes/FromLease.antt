-- A node starts its call with a number that is left in its lease.
use Rattle.std.proofs.Common.{◌≡◌, ℕ, ◌≤◌, Bool, true, false, ◌&&◌, not, if◌then◌else◌, List, [], ◌∷◌, length, filter, flat_map, nat_eq, sum_by, Some, option_and_then, refl, ap, sym, subst, ◌∙◌, inl, inr, arith}
use Rattle.std.proofs.lemmas.Bool.{cases_eq, eq-eqb, ne_eqb}
use Rattle.pico_base.specs.declared.call.Call.{Call}
use Rattle.pico_base.specs.declared.numbers.Kind.{Kind}
use Rattle.pico_base.specs.declared.script.Event.TheVariants as events
use Rattle.pico_base.specs.declared.script.Script.{Script}
use Rattle.rpc_frame.specs.declared.frame.Frame.TheVariants as frames
use Rattle.kernel_model.specs.Script.{IsSoundScript}
use Rattle.node_model.specs.Caller.{Caller, start_call}
use Rattle.node_model.specs.Directory.{max_ranges}
use Rattle.node_model.specs.Kinds.{for_kind}
use Rattle.node_model.specs.Leases.{is_used_up}
use Rattle.world_model.specs.Node.{Node, can_run, is_leader}
use Rattle.world_model.specs.Numbers.{make_taken, make_with, take_from}
use Rattle.world_model.specs.Starting.{run, start_by, start_making}
use Rattle.world_model.specs.Step.{Step, send, step_to}
use Rattle.world_model.specs.World.{World, node_count, numbers as numbers_from, world_after}
use Rattle.world_laws.specs.Places.{Beside, Idle, call_in}
use Rattle.world_laws.specs.Sights.{directory_of, frames_to, is_born_in, node_of}
use Rattle.world_laws.specs.Invariant.{Holds}
use Rattle.world_laws.specs.Callers.{is_about}
use Rattle.world_laws.specs.Ranges.{has_lease, kind_sight, lease_in, leases_on_way, one_for}
use Rattle.world_laws.proofs.Changes.{Changes, frames_if}
use Rattle.world_laws.proofs.NewRanges.{no-lease-about}
use Rattle.world_laws.proofs.Sends.{AreToNodes}
use Rattle.world_laws.proofs.Steps.{changes-by-run, run-steps}
use Rattle.rule_laws.proofs.own.Asks.{Takes}
use Rattle.rule_laws.proofs.own.Runs.{Starts, run-is}
use Rattle.rule_laws.proofs.own.Starting.{starts-may-as, starts-uncancelled}
use Rattle.rule_laws.proofs.makes.Sources.{Gives, InLease, Origin, Source, kind-at-hand, ready_node, takes_by}

-- none of no frames
pub frames-of-none : (t : Bool) → frames_if t [] ≡ []
frames-of-none true = refl
frames-of-none false = refl

module _ (script : Script) (sound : IsSoundScript script) (w : World) (b : Beside) (holds : Holds script w [] b) (p : ℕ)
    (low : 1 ≤ p) (high : p ≤ node_count script) (can : can_run (node_of w p) ≡ true) (s : Starts script w b p)
    (kind : Kind) (takes : Takes kind s.call) where
  abbrev n : Node
  n = node_of w p

  abbrev call : Call
  call = s.call

  abbrev started : Caller
  started = start_call n.caller call

  abbrev first : Step
  first = step_to (record n { caller = started })

  none-coming : flat_map (lease_in kind) (frames_to w p 1) ≡ []
  none-coming = no-lease-about kind p (frames_to w p 1) (s.nowhere.in_streams p 1)

  -- the call makes with the number that the node takes
  making : run script n ≡ start_making script first call kind
  making =
      run-is script sound w b holds p low high can s
      ∙ ap (start_by script first call s.row) (takes.home n.pid)
      ∙ takes.starts script first

  -- a call that starts so is the node's step
  pub given-by : (numbers : List ℕ) (number : ℕ) (o : Origin) → takes_by kind o ≡ [] → (after : Step)
      → AreToNodes (node_count script) after.sends → after.strikes ≡ false
      → start_making script first call kind
      ≡ make_with script (step_to (ready_node n started kind numbers o)) call number
      → make_with script (step_to (ready_node n started kind numbers o)) call number ≡ Some after
      → Gives script w p (events.Run p) (takes_by kind o) after
  given-by numbers number o none after to_nodes unstruck starts makes =
      record {
        next = world_after w p after;
        is_step = run-steps script w p after holds.shape low high (making ∙ starts ∙ makes);
        changes = subst (λ ts. Changes script p w (world_after w p after) after.node ts after.sends after.entries)
            (sym none) (changes-by-run script w holds.shape p after low high to_nodes);
      }

  idle-still : (y : Kind) (z : ℕ) → has_lease y (call_in b.call p Idle z) ≡ has_lease y (b.call z)
  idle-still y z =
      elim (cases_eq p z) [
        | inl same ↦
            ap (λ t. has_lease y (if t then Idle else b.call z)) (eq-eqb p z same)
            ∙ sym (ap (λ q. has_lease y (b.call q)) (sym same) ∙ ap (has_lease y) s.idle)
        | inr other ↦ ap (λ t. has_lease y (if t then Idle else b.call z)) (ne_eqb p z other)
      ]

  -- as many leases are on their way
  pub on-way-still : leases_on_way script (call_in b.call p Idle) kind ≡ leases_on_way script b.call kind
  on-way-still = λ i. sum_by (λ z. one_for (idle-still kind z i)) (numbers_from 1 (node_count script))

  -- ---- a number that is left

  module _ (number : ℕ) (numbers : List ℕ) (lease : for_kind n.leases kind ≡ number ∷ numbers)
      (enough : length (for_kind (directory_of w).ranges kind) ≤ max_ranges) where
    starts-so : start_making script first call kind
        ≡ make_with script (step_to (ready_node n started kind numbers InLease)) call number
    starts-so =
        ap (λ ns. if is_used_up ns && not (is_leader n) then Some (send first 1 (frames.LeaseAsk kind))
        else option_and_then (make_taken script first call) (take_from first.node kind ns)) lease

    -- The call starts with the next number of the lease.
    pub from-lease : Source script w b p call kind number numbers InLease (events.Run p)
    from-lease =
        record {
          low = low;
          high = high;
          takes = takes;
          stage = s.stage;
          birth = s.birth;
          row = s.row;
          has_row = s.has_row;
          deed = s.deed;
          caller = started;
          under_way = refl;
          there = s.free.there;
          is_due = s.due_now.due;
          may = s.may;
          may_whole = starts-may-as script w b holds p low high s;
          uncancelled = starts-uncancelled script w b holds p low high s;
          older = omega arith;
          tickets = let few = s.free.tickets in omega (arith, few);
          try_left = s.free.try_left;
          about = λ to sender. s.nowhere.in_streams to sender
              ∙ sym (ap (filter (is_about p to sender)) (frames-of-none (nat_eq to p)));
          not_held = s.nowhere.held_for_names;
          not_waiting = s.nowhere.waiting;
          other_kinds = λ y d. ap (has_lease y) s.idle;
          at_leader = λ d. refl;
          ready = kind-at-hand (is_born_in w) (kind_sight w b.kernel kind) p (number ∷ numbers) (holds.kinds kind) lease
              none-coming;
          few = let old = holds.few kind in let same = on-way-still in omega (arith, old, same);
          enough = enough;
          gives = λ after to_nodes unstruck makes.
              given-by numbers number InLease refl after to_nodes unstruck starts-so makes;
        }
