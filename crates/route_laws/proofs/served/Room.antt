-- There is room for the first call of the hand where it may have to wait: its process doesn't wait there yet, and no
-- other one does twice.
use Rattle.std.proofs.Common.{◌≡◌, Bool, true, false, not, ◌&&◌, List, [], ◌∷◌, length, filter, nat_eq, ap, sym, subst, ◌∙◌, arith, inl, inr}
use Rattle.std.specs.List.{list_any}
use Rattle.std.specs.Prelude.{Contains, nat_lt}
use Rattle.std.proofs.lemmas.Bool.{cases_Bool, eq-eqb, lt-ltb, or_right}
use Rattle.pico_base.specs.declared.numbers.Name.{Name}
use Rattle.pico_base.specs.declared.script.Script.{Script}
use Rattle.rpc_frame.specs.declared.asked.Asked.{Asked}
use Rattle.kernel_laws.proofs.Members.{contains-filter, contains-none}
use Rattle.waiting_model.specs.declared.callers.Waiting.{Waiting}
use Rattle.node_model.specs.declared.held.Held.{Held}
use Rattle.node_model.specs.declared.held.Held.TheVariants.{Request}
use Rattle.node_model.specs.Bodies.{waiters_of}
use Rattle.node_model.specs.Carrying.{is_removal}
use Rattle.node_model.specs.Serving.{admits, waiting_as, waits_in}
use Rattle.world_model.specs.World.{World}
use Rattle.world_laws.specs.Places.{Beside}
use Rattle.world_laws.specs.Callers.{is_waiter_of}
use Rattle.world_laws.specs.Cancels.{Owing}
use Rattle.world_laws.specs.Invariant.{HoldsOwing}
use Rattle.route_laws.specs.Ready.{HasFewNodes}
use Rattle.route_laws.proofs.hand.Answering.{pid-in-hand}
use Rattle.route_laws.proofs.hand.HandMoves.{IsCallOf, waits-nowhere}
use Rattle.route_laws.proofs.served.Waiters.{any-of-pid, has-room-for, pid-of-waiter}

both : (a c : Bool) → a ≡ true → c ≡ true → (a && c) ≡ true
both true c h g = g
both false c h g = h

module _ (script : Script) (w : World) (asked : Asked) (rest : List Held) (b : Beside) {owes : Owing}
    (holds : HoldsOwing script w (Request asked ∷ rest) owes b) (asks : IsCallOf script asked) (name : Name) where
  abbrev hand : List Held
  hand = Request asked ∷ rest

  abbrev ws : List Waiting
  ws = waiters_of (b.body name)

  none-of-caller : filter (is_waiter_of asked.caller) ws ≡ []
  none-of-caller = waits-nowhere script w asked rest b holds asks name

  -- its process doesn't wait there
  waits-not : waits_in (b.body name) asked.pid ≡ false
  waits-not =
      elim (cases_Bool (list_any (λ (v : Waiting). nat_eq asked.pid v.pid) ws)) [
        | inr f ↦ f
        | inl t ↦
            let v = any-of-pid asked.pid ws t
            in let its = pid-of-waiter script w hand b holds name v.0 v.1
            in let pids = holds.pids
            in let same : (v.0).caller ≡ asked.caller =
            pids.apart (v.0).caller asked.caller its.1
            (sym its.0 ∙ v.2 ∙ pid-in-hand script w asked rest b holds asks)
            in absurd (contains-none v.0
            (subst (λ (vs : List Waiting). Contains vs v.0) none-of-caller
            (contains-filter (is_waiter_of asked.caller) ws v.0 v.1 (eq-eqb (v.0).caller asked.caller same))))
      ]

  -- The call is admitted.
  pub is-admitted : HasFewNodes script → admits (b.body name) (waiting_as asked) ≡ true
  is-admitted few =
      let less = has-room-for script w hand b holds name asked.caller asks.low asks.high none-of-caller
      in or_right (is_removal asked.call) (nat_lt (length ws) 32 && not (waits_in (b.body name) asked.pid))
      (both (nat_lt (length ws) 32) (not (waits_in (b.body name) asked.pid))
      (lt-ltb (length ws) 32 (omega (arith, less, few))) (ap not waits-not))
