-- Where a node's call is carried out at once: the caller afterwards, with no call under way.
use Rattle.std.proofs.Common.{◌≡◌, ℕ, ◌+◌, ◌≤◌, [], Option, Some, refl, ap, sym, subst, arith}
use Rattle.pico_base.specs.declared.call.Call.{Call}
use Rattle.pico_base.specs.declared.reply.Reply.{Reply}
use Rattle.pico_base.specs.declared.script.Script.{Script}
use Rattle.kernel_model.specs.Fitting.{Place, place_after}
use Rattle.kernel_model.specs.Row.{Alive}
use Rattle.node_model.specs.Leases.{Leases}
use Rattle.node_model.specs.Caller.{Caller, answer_call, caller_place, start_call}
use Rattle.world_model.specs.Node.{Node, Stage}
use Rattle.world_model.specs.World.{World, node_count}
use Rattle.world_laws.specs.Places.{Beside}
use Rattle.world_laws.specs.Sights.{node_of, is_born_in}
use Rattle.world_laws.specs.Callers.{CallHolds, CallSight, FreeIn, HasCallOrNone, IsFree, call_sight}
use Rattle.world_laws.specs.Invariant.{Holds}
use Rattle.world_laws.proofs.Lines.{IsAnswered, answered, due-at-line}
use Rattle.rule_laws.proofs.own.Runs.{Starts}

-- the caller goes on with the reply
pub answered-at-once : (script : Script) (w : World) (b : Beside) → Holds script w [] b → (p : ℕ) → 1 ≤ p
    → p ≤ node_count script → (s : Starts script w b p) (reply : Reply)
    → (let started : Caller = start_call (node_of w p).caller s.call
    in IsAnswered script p started s.call reply (answer_call script p started s.call reply))
answered-at-once script w b holds p low high s reply =
    let shape = holds.shape
    in let c : Caller = (node_of w p).caller
    in let line = due-at-line script p c s.call s.due_now.due
    in answered script p shape.tries (start_call c s.call) s.call reply line.0 line.1 s.free.try_left

module _ (script : Script) (w : World) (b : Beside) (holds : Holds script w [] b) (p : ℕ) (low : 1 ≤ p)
    (high : p ≤ node_count script) (s : Starts script w b p) (reply : Reply) (alive : Alive) (leases : Leases) where
  abbrev n : Node
  n = node_of w p

  abbrev started : Caller
  started = start_call n.caller s.call

  abbrev place : Place
  place = caller_place script p n.caller

  abbrev x : CallSight
  x = call_sight w [] b p

  -- what there is to see of it then
  abbrev pub answered-sight : CallSight
  answered-sight =
      record x {
        caller = answer_call script p started s.call reply;
        leases = leases;
        place = Some (place_after place s.call (Some reply));
        alive = Some alive;
      }

  is-answered : IsAnswered script p started s.call reply (answer_call script p started s.call reply)
  is-answered = answered-at-once script w b holds p low high s reply

  free-now : IsFree script p answered-sight
  free-now =
      record {
        there = ap Some (sym is-answered.place_is);
        alive = alive;
        lives = refl;
        tickets =
            let few = s.free.tickets
            in let many = is-answered.more_tries
            in let ticket : (answer_call script p started s.call reply).ticket ≡ n.caller.ticket + 1 =
            is-answered.ticket_is
            in omega (arith, few, many, ticket);
        try_left = is-answered.left;
      }

  -- all holds of it
  pub call-answered : CallHolds script p (is_born_in w) answered-sight
  call-answered =
      let old : CallHolds script p (is_born_in w) x = holds.calls p low high
      in record {
        call = subst (λ (o : Option Call). HasCallOrNone script p (is_born_in w) answered-sight o)
            (sym is-answered.free)
            (record {
              nowhere = record {
                in_streams = s.nowhere.in_streams;
                held_for_names = s.nowhere.held_for_names;
                in_hand = s.nowhere.in_hand;
                waiting = s.nowhere.waiting;
              };
              idle = s.idle;
              free = subst (λ (stage : Stage). FreeIn script p answered-sight stage) (sym s.stage) free-now;
            });
        ends = old.ends;
      }
