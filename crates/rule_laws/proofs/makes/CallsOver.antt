-- A node's own call is carried out at once: the step of it, and the caller afterwards, with no call under way.
use Rattle.std.proofs.Common.{◌≡◌, ℕ, ◌+◌, ◌≤◌, Bool, true, false, [], ◌∷◌, ◌++◌, nat_eq, if◌then◌else◌, Option, Some, None, refl, ap, sym, subst, ◌∙◌, arith}
use Rattle.std.proofs.lemmas.Bool.{eq-eqb}
use Rattle.pico_base.specs.declared.call.Call.{Call}
use Rattle.pico_base.specs.declared.reply.Reply.{Reply}
use Rattle.pico_base.specs.declared.script.Script.{Script}
use Rattle.rpc_frame.specs.declared.frame.Frame.TheVariants as frames
use Rattle.kernel_model.specs.Fitting.{IsDue, place_after}
use Rattle.kernel_model.specs.Row.{Alive}
use Rattle.node_model.specs.Caller.{Caller, answer_call, caller_place}
use Rattle.node_model.specs.Entries.{entry_by}
use Rattle.world_model.specs.Node.{Stage, Living, asked_here}
use Rattle.world_model.specs.Step.{Step, carry_out, reply_here}
use Rattle.world_laws.specs.Places.{Idle}
use Rattle.world_laws.specs.Callers.{CallHolds, CallSight, FreeIn, HasCallOrNone, HasTries, HasTryLeft, IsFree, IsNowhere, is_end_place, is_end_stage, tries_made}
use Rattle.world_laws.proofs.Lines.{IsAnswered, answered, due-at-line}

-- the call under way at the node ends with its entry
pub carried-here : (script : Script) (step : Step) (call : Call) (reply : Reply)
    → step.node.caller.under_way ≡ Some call
    → carry_out script step (asked_here step.node call) reply
    ≡ record {
      node = record step.node { caller = answer_call script step.node.number step.node.caller call reply };
      entries = step.entries ++ entry_by step.node.number step.node.pid call reply ∷ [];
      sends = step.sends;
      strikes = step.strikes;
    }
carried-here script step call reply under_way =
    ap (λ t. if t
    then reply_here script entered reply (elim (nat_eq ticket ticket)
    [ true ↦ step.node.caller.under_way | false ↦ None ])
    else record entered { sends = entered.sends ++ (step.node.number, frames.Answer ticket reply) ∷ [] })
    (eq-eqb step.node.number step.node.number refl)
    ∙ ap (λ t. reply_here script entered reply (elim t [ true ↦ step.node.caller.under_way | false ↦ None ]))
    (eq-eqb ticket ticket refl)
    ∙ ap (reply_here script entered reply) under_way
  where
    ticket : ℕ
    ticket = step.node.caller.ticket

    entered : Step
    entered = record step { entries = step.entries ++ entry_by step.node.number step.node.pid call reply ∷ [] }

module _ (script : Script) (tries : HasTries script) (p : ℕ) (born : ℕ → Bool) (y : CallSight) (caller : Caller)
    (call : Call) (reply : Reply) (alive : Alive) (is_due : IsDue (caller_place script p caller) call)
    (tickets : caller.ticket ≤ tries_made script p caller + 1) (left : HasTryLeft script p caller)
    (caller_is : y.caller ≡ answer_call script p caller call reply) where
  pub is-answered : IsAnswered script p caller call reply (answer_call script p caller call reply)
  is-answered =
      let line = due-at-line script p caller call is_due
      in answered script p tries caller call reply line.0 line.1 left

  few-tickets : y.caller.ticket ≤ tries_made script p y.caller
  few-tickets =
      subst (λ (c : Caller). c.ticket ≤ tries_made script p c) (sym caller_is)
      (let many = is-answered.more_tries
      in let ticket : (answer_call script p caller call reply).ticket ≡ caller.ticket = is-answered.ticket_is
      in omega (arith, tickets, many, ticket))

  -- all holds of the call of a node whose process goes on
  pub call-over : y.stage ≡ Living → y.call ≡ Idle → IsNowhere y
      → y.place ≡ Some (place_after (caller_place script p caller) call (Some reply)) → y.alive ≡ Some alive
      → CallHolds script p born y
  call-over stage idle nowhere there lives =
      record {
        call = subst (λ (o : Option Call). HasCallOrNone script p born y o)
            (sym (ap (λ (c : Caller). c.under_way) caller_is ∙ is-answered.free))
            (record {
              nowhere = nowhere;
              idle = idle;
              free = subst (λ (s : Stage). FreeIn script p y s) (sym stage) free;
            });
        ends = ap is_end_place idle ∙ sym (ap is_end_stage stage);
      }
    where
      free : IsFree script p y
      free =
          record {
            there = there ∙ ap Some (sym is-answered.place_is)
                ∙ ap (λ (c : Caller). Some (caller_place script p c)) (sym caller_is);
            alive = alive;
            lives = lives;
            tickets = few-tickets;
            try_left = subst (λ (c : Caller). HasTryLeft script p c) (sym caller_is) is-answered.left;
          }
