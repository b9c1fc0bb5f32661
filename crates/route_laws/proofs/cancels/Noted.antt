-- A call of which it is noted that a signal has interrupted it is the same call.
use Rattle.std.proofs.Common.{Bool, None, Option, Some, inl, inr, ℕ}
use Rattle.pico_base.specs.declared.call.Call.{Call}
use Rattle.pico_base.specs.declared.script.Script.{Script}
use Rattle.world_model.specs.Node.{Leaving, Left, Living, Over, Stage, Unborn}
use Rattle.world_laws.specs.Callers.{CallHolds, CallSight, FreeIn, HasCallOrNone, HasEnded, IsSoFar, IsToBeMade}
use Rattle.world_laws.specs.Places.{CallPlace, Ends, InAnswer}

-- with the note as it is said
abbrev pub noted_as : CallSight → Bool → CallSight
noted_as x noted = record x { caller = record x.caller { noted = noted } }

module _ (script : Script) (p : ℕ) (born : ℕ → Bool) (x : CallSight) (noted : Bool) where
  to-be-made : (call : Call) → IsToBeMade script p x call → IsToBeMade script p (noted_as x noted) call
  to-be-made call h =
      record { there = h.there; due = h.due; alive = h.alive; lives = h.lives; may = h.may }

  ended : HasEnded x → HasEnded (noted_as x noted)
  ended h = record { last = h.last; there = h.there; over = h.over; dead = h.dead }

  so-far : (call : Call) (place : CallPlace) → IsSoFar script p x call place
      → IsSoFar script p (noted_as x noted) call place
  so-far call (InAnswer from reply) h =
      record { there = h.there; due = h.due; alive = h.alive; lives = h.lives }
  so-far call Ends (inl h) = inl (to-be-made call h)
  so-far call Ends (inr h) = inr (ended h)
  so-far call place h = to-be-made call h

  free : (stage : Stage) → FreeIn script p x stage → FreeIn script p (noted_as x noted) stage
  free Living h =
      record { there = h.there; alive = h.alive; lives = h.lives; tickets = h.tickets; try_left = h.try_left }
  free Over h = ended h
  free Unborn h = tt
  free Leaving h = absurd h
  free Left h = absurd h

  call-or-none : (under_way : Option Call) → HasCallOrNone script p born x under_way
      → HasCallOrNone script p born (noted_as x noted) under_way
  call-or-none None h =
      record {
        nowhere = record {
          in_streams = h.nowhere.in_streams;
          held_for_names = h.nowhere.held_for_names;
          in_hand = h.nowhere.in_hand;
          waiting = h.nowhere.waiting;
        };
        idle = h.idle;
        free = free x.stage h.free;
      }
  call-or-none (Some call) h =
      record {
        just_there = record {
          in_streams = h.just_there.in_streams;
          held_for_names = h.just_there.held_for_names;
          in_hand = h.just_there.in_hand;
          waiting = h.just_there.waiting;
        };
        home = h.home;
        used_up = h.used_up;
        between = h.between;
        so_far = so-far call x.call h.so_far;
        at_work = h.at_work;
        started = h.started;
        tickets = h.tickets;
        try_left = h.try_left;
      }

  -- all holds of it
  pub call-noted : CallHolds script p born x → CallHolds script p born (noted_as x noted)
  call-noted h = record { call = call-or-none x.caller.under_way h.call; ends = h.ends }
