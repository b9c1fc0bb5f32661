-- The leader's own call holds as before where the leader has other numbers to give: it never asks for any.
use Rattle.std.proofs.Common.{ℕ, Bool, Option, Some, None, refl, inl, inr}
use Rattle.pico_base.specs.declared.call.Call.{Call}
use Rattle.pico_base.specs.declared.script.Script.{Script}
use Rattle.node_model.specs.Leases.{Leases}
use Rattle.world_model.specs.Node.{Stage, Unborn, Living, Leaving, Left, Over}
use Rattle.world_laws.specs.Places.{AsksLease, CallPlace, Ends, HasLease, InAnswer}
use Rattle.world_laws.specs.Callers.{CallHolds, CallSight, FreeIn, HasCallOrNone, IsBetween, IsSoFar, IsToBeMade, lease_is_over}

-- the leader waits for no numbers
no-lease-at-first : (born : ℕ → Bool) (place : CallPlace) (leases : Leases) → IsBetween 1 born place
    → lease_is_over place leases
no-lease-at-first born (AsksLease kind) leases h = absurd (h refl)
no-lease-at-first born (HasLease kind number) leases h = absurd (h refl)
no-lease-at-first born place leases h = tt

module _ (script : Script) (born : ℕ → Bool) (x : CallSight) (leases : Leases) where
  abbrev y : CallSight
  y = record x { leases = leases }

  to-be-made : (call : Call) → IsToBeMade script 1 x call → IsToBeMade script 1 y call
  to-be-made call g = record { there = g.there; due = g.due; alive = g.alive; lives = g.lives; may = g.may }

  so-far : (call : Call) (place : CallPlace) → IsSoFar script 1 x call place → IsSoFar script 1 y call place
  so-far call (InAnswer h reply) g = record { there = g.there; due = g.due; alive = g.alive; lives = g.lives }
  so-far call Ends (inl g) = inl (to-be-made call g)
  so-far call Ends (inr g) = inr (record { last = g.last; there = g.there; over = g.over; dead = g.dead })
  so-far call place g = to-be-made call g

  free : (stage : Stage) → FreeIn script 1 x stage → FreeIn script 1 y stage
  free Unborn f = f
  free Living f =
      record { there = f.there; alive = f.alive; lives = f.lives; tickets = f.tickets; try_left = f.try_left }
  free Leaving f = f
  free Left f = f
  free Over f = record { last = f.last; there = f.there; over = f.over; dead = f.dead }

  by-call : (o : Option Call) → HasCallOrNone script 1 born x o → HasCallOrNone script 1 born y o
  by-call None c =
      record {
        nowhere = record {
          in_streams = c.nowhere.in_streams;
          held_for_names = c.nowhere.held_for_names;
          in_hand = c.nowhere.in_hand;
          waiting = c.nowhere.waiting;
        };
        idle = c.idle;
        free = free x.stage c.free;
      }
  by-call (Some call) c =
      record {
        just_there = record {
          in_streams = c.just_there.in_streams;
          held_for_names = c.just_there.held_for_names;
          in_hand = c.just_there.in_hand;
          waiting = c.just_there.waiting;
        };
        home = c.home;
        used_up = no-lease-at-first born x.call leases c.between;
        between = c.between;
        so_far = so-far call x.call c.so_far;
        at_work = c.at_work;
        started = c.started;
        tickets = c.tickets;
        try_left = c.try_left;
      }

  -- The call holds with any numbers to give.
  pub other-leases : CallHolds script 1 born x → CallHolds script 1 born (record x { leases = leases })
  other-leases h = record { call = by-call x.caller.under_way h.call; ends = h.ends }
