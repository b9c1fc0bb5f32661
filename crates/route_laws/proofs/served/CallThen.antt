-- What holds of the first call in hand once it has its reply: that is on its way, or the node's own process goes on.
use Rattle.std.proofs.Common.{◌≡◌, ◌≢◌, ℕ, ◌≤◌, true, false, List, [], ◌∷◌, filter, Some, refl, ap, sym, subst, ◌∙◌, arith}
use Rattle.std.specs.Prelude.{slice_get}
use Rattle.std.proofs.lemmas.Bool.{false≢true}
use Rattle.pico_base.specs.declared.reply.Reply.{Reply}
use Rattle.pico_base.specs.declared.script.Line.{Line}
use Rattle.pico_base.specs.declared.script.Script.{Script}
use Rattle.pico_base.specs.Home.{home_of}
use Rattle.rpc_frame.specs.declared.asked.Asked.{Asked}
use Rattle.kernel_model.specs.Fitting.{Place, place_after}
use Rattle.kernel_model.specs.Row.{Alive}
use Rattle.node_model.specs.declared.held.Held.{Held}
use Rattle.node_model.specs.declared.held.Held.TheVariants.{Request}
use Rattle.node_model.specs.Caller.{answer_call, caller_place, lines_of}
use Rattle.node_model.specs.Leases.{Leases}
use Rattle.world_model.specs.Calls.{is_for_others}
use Rattle.world_model.specs.Node.{Stage, Unborn, Living, Leaving, Left, Over}
use Rattle.world_model.specs.World.{World}
use Rattle.world_laws.specs.Places.{Idle, Beside}
use Rattle.world_laws.specs.Sights.{is_born_in}
use Rattle.world_laws.specs.Callers.{CallSight, call_sight, CallHolds, FreeIn, HasCall, HasCallOrNone, IsFree, IsSoFar, IsToBeMade, asked_of, is_item_about, is_at_work, is_end_place, is_end_stage, tries_made}
use Rattle.world_laws.specs.Cancels.{Owing}
use Rattle.world_laws.specs.Invariant.{HoldsOwing, IsShaped}
use Rattle.world_laws.proofs.Lines.{IsAnswered, answered, due-at-line}
use Rattle.route_laws.proofs.hand.Answering.{answered_at}
use Rattle.route_laws.proofs.hand.HandMoves.{IsCallOf, IsFirst, first, in-hand-for-others}

free-in : (script : Script) (p : ℕ) (x : CallSight) (stage : Stage) → is_at_work stage ≡ true
    → is_end_stage stage ≡ false → IsFree script p x → FreeIn script p x stage
free-in script p x Living work no_end free = free
free-in script p x Unborn work no_end free = absurd (false≢true work)
free-in script p x Over work no_end free = absurd (false≢true work)
free-in script p x Leaving work no_end free = absurd (false≢true (sym no_end))
free-in script p x Left work no_end free = absurd (false≢true (sym no_end))

module _ (script : Script) (w : World) (asked : Asked) (rest : List Held) (b : Beside) {owes : Owing}
    (holds : HoldsOwing script w (Request asked ∷ rest) owes b) (asks : IsCallOf script asked) (reply : Reply)
    (alive : Alive) where
  abbrev caller : ℕ
  caller = asked.caller

  abbrev x : CallSight
  x = call_sight w (Request asked ∷ rest) b caller

  abbrev pub is-first : IsFirst script caller (is_born_in w) x asked (filter (is_item_about caller) rest)
  is-first = first script w asked rest b holds asks

  has : HasCall script caller (is_born_in w) x is-first.call
  has = is-first.has

  to-be-made : IsToBeMade script caller x is-first.call
  to-be-made = subst (λ z. IsSoFar script caller x is-first.call z) is-first.place_is has.so_far

  call-holds : CallHolds script caller (is_born_in w) x
  call-holds = holds.calls caller asks.low asks.high

  -- its caller doesn't leave
  pub no-end : is_end_stage x.stage ≡ false
  no-end = sym call-holds.ends ∙ ap is_end_place is-first.place_is

  abbrev after : Place
  after = place_after (caller_place script caller x.caller) is-first.call (Some reply)

  -- ---- the reply is on its way

  pub reply-on-its-way : (p : ℕ) → is_born_in w p ≡ true → caller ≢ p
      → CallHolds script caller (is_born_in w)
      (answered_at x caller p reply after alive (asked_of x is-first.call))
  reply-on-its-way p born other =
      record {
        call = subst (λ o. HasCallOrNone script caller (is_born_in w)
            (answered_at x caller p reply after alive (asked_of x is-first.call)) o) (sym is-first.is)
            (record {
              just_there = record {
                in_streams = λ to sender. refl;
                held_for_names = λ name. refl;
                in_hand = refl;
                waiting = λ name. refl;
              };
              home = subst (λ (z : Asked). is_for_others (home_of z.pid z.call) ≡ true) is-first.asked_is
                  (in-hand-for-others script w asked rest b holds asks);
              used_up = tt;
              between = (born, λ e. other (sym e));
              so_far = record { there = refl; due = to-be-made.due; alive = alive; lives = refl };
              at_work = has.at_work;
              started = has.started;
              tickets = has.tickets;
              try_left = has.try_left;
            });
        ends = sym no-end;
      }

  -- ---- the process goes on

  at-line : (line : Line) × (slice_get (lines_of script caller) x.caller.line ≡ Some line)
  at-line = due-at-line script caller x.caller is-first.call to-be-made.due

  pub is-answered : IsAnswered script caller x.caller is-first.call reply
      (answer_call script caller x.caller is-first.call reply)
  is-answered =
      let shape : IsShaped script w = holds.shape
      in answered script caller shape.tries x.caller is-first.call reply at-line.0 at-line.1 has.try_left

  -- with any numbers to give
  abbrev pub over_at : Leases → CallSight
  over_at leases =
      record x {
        caller = answer_call script caller x.caller is-first.call reply;
        leases = leases;
        place = Some after;
        alive = Some alive;
        call = Idle;
        frames_about = λ to sender. [];
        held = λ name. [];
        hand = [];
        waiters = λ name. [];
      }

  pub process-goes-on : (leases : Leases) → CallHolds script caller (is_born_in w) (over_at leases)
  process-goes-on leases =
      record {
        call = subst (λ o. HasCallOrNone script caller (is_born_in w) (over_at leases) o) (sym is-answered.free)
            (record {
              nowhere = record {
                in_streams = λ to sender. refl;
                held_for_names = λ name. refl;
                in_hand = refl;
                waiting = λ name. refl;
              };
              idle = refl;
              free = free-in script caller (over_at leases) x.stage has.at_work no-end free-now;
            });
        ends = sym no-end;
      }
    where
      free-now : IsFree script caller (over_at leases)
      free-now =
          record {
            there = ap Some (sym is-answered.place_is);
            alive = alive;
            lives = refl;
            tickets =
                let few = has.tickets
                in let many = is-answered.more_tries
                in subst (λ t. t ≤ tries_made script caller (answer_call script caller x.caller is-first.call reply))
                (sym is-answered.ticket_is) (omega (arith, few, many));
            try_left = is-answered.left;
          }
